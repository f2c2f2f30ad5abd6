-- The tails so far are as they should be.
use Rattle.drt_claims.specs.Sorting.{sorted_places}
use Rattle.drt_states.specs.Tails.{BoundsWalks}
use Rattle.drt_check_searches.proofs.Eachs.{AreTo}
use Rattle.drt_check_searches.proofs.tails.bound_walks.Given as goal

abbrev pub invariant-loop-i : goal.invariant-loop-i
invariant-loop-i l = AreTo BoundsWalks (sorted_places l.set.tasks) l.tails l.i
