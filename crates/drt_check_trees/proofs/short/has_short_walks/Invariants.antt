-- The walks so far are short.
use Rattle.std.proofs.Common.{ℕ, ◌<◌, List, get_or}
use Rattle.drt_claims.specs.Trees.{IsShortWalk}
use Rattle.drt_check_trees.proofs.short.has_short_walks.Given as goal

abbrev pub invariant-loop-i : goal.invariant-loop-i
invariant-loop-i l = (k : ℕ) (d : List ℕ) → k < l.i → IsShortWalk l.bound l.graph (get_or l.tree.walks k d)
