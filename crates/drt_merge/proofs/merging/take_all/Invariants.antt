use Rattle.std.proofs.Common.{◌≤◌}
use Rattle.drt_merge.specs.Merging.{IsMerging}
use Rattle.drt_merge.proofs.merging.take_all.Given as goal

abbrev pub invariant-turns : goal.invariant-turns
invariant-turns l = record {
  merging : IsMerging l.walks.graph.now l.walks.bound l.walks.arcs.now l.merging.lists l.merging.cursors.items;
  steps : l.steps ≤ l.budget;
}
