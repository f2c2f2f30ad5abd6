-- The entries so far name vertices of the tasks at their places.
use Rattle.std.proofs.Common.{ℕ, ◌<◌, get_or}
use Rattle.drt_states.specs.States.{IsEntry}
use Rattle.drt_states.specs.declared.claims.StateEntry.{StateEntry}
use Rattle.drt_check_states.specs.Places.{graphs_at}
use Rattle.drt_check_states.proofs.states.are_entries.Given as goal

abbrev pub invariant-loop-entry : goal.invariant-loop-entry
invariant-loop-entry l = (k : ℕ) (d : StateEntry) → k < l.entry-index → IsEntry (graphs_at l.graphs l.order) (get_or l.entries k d)
