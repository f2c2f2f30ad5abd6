-- The walks so far are those of the graphs and fronts so far.
use Rattle.std.proofs.Common.{take}
use Rattle.drt_edf_fronts.specs.LabelFronts.{AreDemandWalks}
use Rattle.drt_edf.proofs.below.demand_walks.Given as goal

abbrev pub invariant-tasks : goal.invariant-tasks
invariant-tasks l = AreDemandWalks (take l.task l.graphs) (take l.task l.fronts) l.t l.walks.items
