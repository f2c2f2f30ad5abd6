use Rattle.drt_merge.specs.Merging.{AreSpentTo}
use Rattle.drt_merge.proofs.streams.are_spent.Given as goal

abbrev pub invariant-arcs : goal.invariant-arcs
invariant-arcs l = AreSpentTo l.walks.bound l.walks.arcs.now l.merging.lists l.merging.cursors.items l.k
