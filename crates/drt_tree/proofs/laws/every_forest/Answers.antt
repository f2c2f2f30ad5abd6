use Rattle.drt_tree.proofs.Trees.{leaf_below}
use Rattle.drt_tree.proofs.Counts.{some_leaf, two_leaves}
use Rattle.drt_tree.proofs.laws.every_forest.Goals as goal

pub returns : goal.returns
returns c = record {
  some = λ f n k. some_leaf f n k;
  pairs = λ f n l r k h. two_leaves f n l r k h;
  below = λ f leaf n t k h. leaf_below f n h.0 leaf t k h.1;
}
