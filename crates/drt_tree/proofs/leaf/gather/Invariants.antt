use Rattle.std.proofs.Common.{◌≡◌, take}
use Rattle.drt_tree.specs.Leaf.{leaves_of}
use Rattle.drt_tree.proofs.leaf.gather.Given as goal

abbrev pub invariant-loop-i : goal.invariant-loop-i
invariant-loop-i l = l.leaves.items ≡ leaves_of (take l.i l.labels) (take l.i l.walks)
