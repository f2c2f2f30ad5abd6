-- The numbers so far are those of tasks.
use Rattle.std.proofs.Common.{ℕ, ◌<◌, get_or, length}
use Rattle.drt_sp_states_tests.proofs.cases.are_tasks.Given as goal

abbrev pub invariant-loop-task : goal.invariant-loop-task
invariant-loop-task l = (k d : ℕ) → k < l.task-index → get_or l.order k d < length l.graphs
