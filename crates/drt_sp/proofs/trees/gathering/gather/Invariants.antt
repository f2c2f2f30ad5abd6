-- The leaves so far are those of the kept ones of the nodes so far.
use Rattle.drt_sp.specs.Gathering.{AreFirstLeaves}
use Rattle.drt_sp.proofs.trees.gathering.gather.Given as goal

abbrev pub invariant-nodes : goal.invariant-nodes
invariant-nodes l = AreFirstLeaves l.table l.id l.leaves.labels.items l.leaves.walks.items
