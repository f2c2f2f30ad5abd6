-- As many rows as tasks so far, each with no proof.
use Rattle.std.proofs.Common.{◌≡◌, length}
use Rattle.drt_sp.proofs.progress.Progress.start.Given as goal

abbrev pub invariant-loop-task : goal.invariant-loop-task
invariant-loop-task l = length l.proofs.items ≡ l._task-index
