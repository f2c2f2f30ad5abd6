use Rattle.drt_merge.specs.Gathered.{AreMarksGathered}
use Rattle.drt_merge.proofs.gathering.entries_of.Given as goal

abbrev pub invariant-vertices : goal.invariant-vertices
invariant-vertices l = AreMarksGathered l.lists l.vertex 0 l.entries.items
