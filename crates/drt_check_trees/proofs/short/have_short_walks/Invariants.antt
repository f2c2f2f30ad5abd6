-- The walks of the trees so far are short.
use Rattle.drt_claims.specs.Trees.{HasShortWalks}
use Rattle.drt_claims.specs.Sorting.{sorted_graphs}
use Rattle.drt_check_trees.proofs.Eachs.{IsEachTo}
use Rattle.drt_check_trees.proofs.short.have_short_walks.Given as goal

abbrev pub invariant-loop-i : goal.invariant-loop-i
invariant-loop-i l = IsEachTo (HasShortWalks l.bound) (sorted_graphs l.set.tasks l.trees) l.trees l.i
