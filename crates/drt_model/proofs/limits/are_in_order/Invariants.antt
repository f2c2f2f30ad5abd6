use Rattle.std.proofs.Common.{◌≡◌, ℕ, ◌+◌, ◌<◌, Some, slice_get}
use Rattle.drt_model.specs.declared.tasks.Task.{Task}
use Rattle.drt_model.proofs.limits.are_in_order.Given as goal

-- the tasks so far have the priorities 1, 2, .. in order
abbrev pub invariant-loop-i : goal.invariant-loop-i
invariant-loop-i l = (k : ℕ) (t : Task) → k < l.i → slice_get l.tasks k ≡ Some t → t.priority ≡ k + 1
