-- The searches so far have dominated children.
use Rattle.std.proofs.Common.{ℕ, ◌<◌, get_or}
use Rattle.drt_claims.specs.Searches.{HasDominatedChildren}
use Rattle.drt_claims.specs.Sorting.{by_priority}
use Rattle.drt_states.specs.declared.claims.SearchClaim.{SearchClaim}
use Rattle.drt_check_searches.proofs.splits.have_dominated_splits.Given as goal

abbrev pub invariant-loop-i : goal.invariant-loop-i
invariant-loop-i l = (k : ℕ) (d : SearchClaim) → k < l.i → HasDominatedChildren l.set.tasks (by_priority l.set.tasks) (get_or l.searches k d)
