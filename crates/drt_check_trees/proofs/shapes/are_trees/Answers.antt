use Rattle.drt_claims.specs.Trees.{IsTree}
use Rattle.drt_check_trees.proofs.Naming.{all_more}
use Rattle.drt_check_trees.proofs.shapes.are_trees.Goals as goal

pub loop-i-preserved : goal.loop-i-preserved
loop-i-preserved c =
    all_more IsTree c.args.trees.now c.loop-i.i c.index-trees-i.result c.loop-i-test.true c.index-trees-i.is (c.in_ok-is_tree.ensures.0 c.if-not-branch.false) c.loop-i.invariant
