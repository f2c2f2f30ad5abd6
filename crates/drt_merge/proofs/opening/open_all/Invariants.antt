use Rattle.std.proofs.Common.{◌*◌, ◌≤◌}
use Rattle.drt_merge.specs.Marks.{AreRows, AreOpenedTo}
use Rattle.drt_merge.proofs.opening.open_all.Given as goal

abbrev pub invariant-vertices : goal.invariant-vertices
invariant-vertices l = record {
  rows : AreRows l.graph l.bound l.lists;
  opened : AreOpenedTo l.graph l.bound l.vertex l.lists;
  few : l.steps ≤ 258 * l.vertex;
}
