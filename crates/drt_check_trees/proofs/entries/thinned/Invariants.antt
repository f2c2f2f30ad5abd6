-- Those before this one are left out, or kept.
use Rattle.drt_check_trees.proofs.Thinning.{IsThinned}
use Rattle.drt_check_trees.proofs.entries.thinned.Given as goal

abbrev pub invariant-loop-i : goal.invariant-loop-i
invariant-loop-i l = IsThinned l.bounded.bound l.bounded.graph.now l.tree.walks l.fn.all.items l.entries.items l.kept l.i
