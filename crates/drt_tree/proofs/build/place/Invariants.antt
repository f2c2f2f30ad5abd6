use Rattle.std.proofs.Common.{◌≡◌, ◌++◌, map}
use Rattle.drt_tree.specs.Tree.{leaf_node, leaf_steps}
use Rattle.drt_tree.proofs.build.place.Given as goal

abbrev pub invariant-loop-leaf : goal.invariant-loop-leaf
invariant-loop-leaf l = record {
  nodes : l.nodes.items ≡ l.initial.nodes.items ++ map leaf_node l.yielded;
  pool : l.pool.items ≡ l.initial.pool.items ++ map leaf_steps l.yielded;
}
