-- The entries so far are above the other ones.
use Rattle.std.proofs.Common.{ℕ, ◌<◌, get_or}
use Rattle.drt_states.specs.States.{IsEntryAbove}
use Rattle.drt_states.specs.declared.claims.StateEntry.{StateEntry}
use Rattle.drt_check_states.proofs.children.are_above.Given as goal

abbrev pub invariant-loop-i : goal.invariant-loop-i
invariant-loop-i l = (k : ℕ) (d e : StateEntry) → k < l.i → IsEntryAbove (get_or l.own k d) (get_or l.other k e)
