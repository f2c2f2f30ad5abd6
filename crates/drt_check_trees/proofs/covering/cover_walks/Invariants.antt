-- The trees so far cover their walks.
use Rattle.drt_claims.specs.Trees.{CoversWalks}
use Rattle.drt_claims.specs.Sorting.{sorted_graphs}
use Rattle.drt_check_trees.proofs.Eachs.{IsEachTo}
use Rattle.drt_check_trees.proofs.covering.cover_walks.Given as goal

abbrev pub invariant-loop-i : goal.invariant-loop-i
invariant-loop-i l = IsEachTo (CoversWalks l.bound) (sorted_graphs l.set.tasks l.trees) l.trees l.i
