-- The tails so far are as they should be.
use Rattle.drt_claims.specs.Sorting.{sorted_places}
use Rattle.drt_states.specs.Tails.{IsTail}
use Rattle.drt_check_searches.proofs.Eachs.{AreTo}
use Rattle.drt_check_searches.proofs.tails.has_rising_tails.Given as goal

abbrev pub invariant-loop-i : goal.invariant-loop-i
invariant-loop-i l = AreTo IsTail (sorted_places l.set.tasks) l.tails l.i
