-- The searches so far have passing states.
use Rattle.std.proofs.Common.{ℕ, ◌<◌, get_or}
use Rattle.drt_claims.specs.Searches.{HasPassingStates}
use Rattle.drt_states.specs.declared.claims.SearchClaim.{SearchClaim}
use Rattle.drt_check_searches.proofs.passing.are_passing.Given as goal

abbrev pub invariant-loop-i : goal.invariant-loop-i
invariant-loop-i l = (k : ℕ) (d : SearchClaim) → k < l.i → HasPassingStates l.set.tasks l.tails (get_or l.searches k d)
