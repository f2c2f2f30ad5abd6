-- The states so far that split are split as they should be.
use Rattle.std.proofs.Common.{ℕ, ◌<◌, get_or}
use Rattle.drt_states.specs.States.{IsSplitting}
use Rattle.drt_states.specs.declared.claims.StateClaim.{StateClaim}
use Rattle.drt_check_states.specs.Places.{graphs_at}
use Rattle.drt_check_states.proofs.children.have_dominated_children.Given as goal

abbrev pub invariant-loop-i : goal.invariant-loop-i
invariant-loop-i l = (k : ℕ) (d : StateClaim) → k < l.i → IsSplitting (graphs_at l.graphs l.order) l.deadline l.states (get_or l.states k d) (get_or l.states k d).end
