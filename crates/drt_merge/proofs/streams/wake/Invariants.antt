use Rattle.drt_merge.specs.Merging.{IsMerging}
use Rattle.drt_merge.proofs.streams.wake.Given as goal

abbrev pub invariant-arcs : goal.invariant-arcs
invariant-arcs l = IsMerging l.walks.graph.now l.walks.bound l.walks.arcs.now l.merging.lists l.merging.cursors.items
