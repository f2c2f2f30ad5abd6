use Rattle.std.proofs.Common.{◌≤◌, ◌-◌, length}
use Rattle.drt_merge.specs.Marks.{row}
use Rattle.drt_merge.specs.Merging.{AreCoveredFrom}
use Rattle.drt_merge.proofs.streams.first_uncovered.Given as goal

abbrev pub invariant-marks : goal.invariant-marks
invariant-marks l = record {
  within : l.place ≤ length (row l.lists l.arc.source);
  covered : AreCoveredFrom l.lists l.arc l.from l.place;
}

abbrev pub decreases-marks : goal.decreases-marks
decreases-marks l = length (row l.lists l.arc.source) - l.place
