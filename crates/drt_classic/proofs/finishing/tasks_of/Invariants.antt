use Rattle.std.proofs.Common.{◌≡◌, map}
use Rattle.drt_classic.specs.ClassicFaults.{task_of_draft}
use Rattle.drt_classic.proofs.finishing.tasks_of.Given as goal

abbrev pub invariant-loop-draft : goal.invariant-loop-draft
invariant-loop-draft l = l.tasks.items ≡ map task_of_draft l.yielded
