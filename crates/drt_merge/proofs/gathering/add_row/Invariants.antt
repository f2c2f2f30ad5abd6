use Rattle.drt_merge.specs.Gathered.{AreMarksGathered}
use Rattle.drt_merge.proofs.gathering.add_row.Given as goal

abbrev pub invariant-marks : goal.invariant-marks
invariant-marks l = AreMarksGathered l.lists l.vertex l.place l.entries.items
