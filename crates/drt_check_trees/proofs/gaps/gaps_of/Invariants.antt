-- The separations so far.
use Rattle.drt_check_trees.proofs.Looks.{AreGapsTo}
use Rattle.drt_check_trees.proofs.gaps.gaps_of.Given as goal

abbrev pub invariant-loop-k : goal.invariant-loop-k
invariant-loop-k l = AreGapsTo l.graph l.gaps.items l.k
