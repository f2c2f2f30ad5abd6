-- The entries so far are of lower places.
use Rattle.std.proofs.Common.{ℕ, ◌<◌, get_or}
use Rattle.drt_states.specs.declared.claims.StateEntry.{StateEntry}
use Rattle.drt_check_states.proofs.children.first_from.Given as goal

abbrev pub invariant-loop-i : goal.invariant-loop-i
invariant-loop-i l = (k : ℕ) (d : StateEntry) → k < l.i → (get_or l.entries k d).place < l.place
