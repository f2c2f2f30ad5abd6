-- The works so far are of the first 32 tasks.
use Rattle.drt_sweep.specs.DueWorks.{AreOfTasks}
use Rattle.drt_model_tests.proofs.sweep_tests.due_works.Given as goal

abbrev pub invariant-works : goal.invariant-works
invariant-works l = AreOfTasks l.works.items
