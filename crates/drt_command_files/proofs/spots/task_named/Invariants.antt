-- No task so far has the name.
use Rattle.std.proofs.Common.{◌≡◌, ℕ, ◌<◌, Some, slice_get}
use Rattle.drt_model.specs.declared.tasks.Task.{Task}
use Rattle.drt_command_files.proofs.spots.task_named.Given as goal

abbrev pub invariant-loop-k : goal.invariant-loop-k
invariant-loop-k l = (i : ℕ) (t : Task) → i < l.k → slice_get l.tasks i ≡ Some t → t.name ≡ l.name → ⊥
