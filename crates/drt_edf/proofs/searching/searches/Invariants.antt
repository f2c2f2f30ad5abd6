-- The fronts so far are those of the graphs so far, and what is found ahead is how searches end.
use Rattle.std.proofs.Common.{take, All}
use Rattle.drt_ahead.specs.Found.{AreThere}
use Rattle.drt_edf.specs.Searches.{IsAheadOf}
use Rattle.drt_claims.specs.Ranges.{IsCounted}
use Rattle.drt_edf_fronts.specs.LabelFronts.{AreLabelFronts}
use Rattle.drt_edf.proofs.searching.searches.Given as goal

abbrev pub invariant-tasks : goal.invariant-tasks
invariant-tasks g l = record {
  fronts : AreLabelFronts l.bound (take l.task l.graphs) l.fronts.items;
  counted : All IsCounted l.fronts.items;
  found : AreThere (IsAheadOf l.graphs l.bound l.crew.effort.budget) l.found.items;
}
