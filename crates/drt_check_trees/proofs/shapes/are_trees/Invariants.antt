-- The claims so far are trees.
use Rattle.std.proofs.Common.{ℕ, ◌<◌, get_or}
use Rattle.drt_claims.specs.Trees.{IsTree}
use Rattle.drt_claims.specs.declared.evidence.TreeClaim.{TreeClaim}
use Rattle.drt_check_trees.proofs.shapes.are_trees.Given as goal

abbrev pub invariant-loop-i : goal.invariant-loop-i
invariant-loop-i l = (k : ℕ) (d : TreeClaim) → k < l.i → IsTree (get_or l.trees k d)
