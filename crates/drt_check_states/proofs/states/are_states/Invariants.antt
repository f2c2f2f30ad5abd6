-- The claims so far are states of these tasks.
use Rattle.std.proofs.Common.{ℕ, ◌<◌, get_or}
use Rattle.drt_states.specs.States.{IsState}
use Rattle.drt_states.specs.declared.claims.StateClaim.{StateClaim}
use Rattle.drt_check_states.specs.Places.{graphs_at}
use Rattle.drt_check_states.proofs.states.are_states.Given as goal

abbrev pub invariant-loop-i : goal.invariant-loop-i
invariant-loop-i l = (k : ℕ) (d : StateClaim) → k < l.i → IsState (graphs_at l.graphs l.order) (get_or l.states k d)
