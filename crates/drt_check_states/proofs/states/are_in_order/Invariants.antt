-- The places so far ascend.
use Rattle.std.proofs.Common.{ℕ, ◌+◌, ◌<◌, get_or}
use Rattle.drt_states.specs.declared.claims.StateEntry.{StateEntry}
use Rattle.drt_check_states.proofs.states.are_in_order.Given as goal

abbrev pub invariant-loop-i : goal.invariant-loop-i
invariant-loop-i l = (k : ℕ) (d : StateEntry) → k + 1 < l.i → (get_or l.entries k d).place < (get_or l.entries (k + 1) d).place
