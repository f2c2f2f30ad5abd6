-- The labels of the later vertices are gathered, and those of this one above the next node, which is a kept one.
use Rattle.drt_demand.specs.Demand.{demand_algebra}
use Rattle.drt_table.specs.KeptOrder.{left_from}
use Rattle.drt_table.specs.View.{setting_of, state_of}
use Rattle.drt_edf_fronts.specs.Falling.{AreFalling, IsEntryPassed}
use Rattle.drt_edf_fronts.proofs.Falling.{StandsAt}
use Rattle.drt_edf_fronts.proofs.fronts.add_labels.Given as goal

abbrev pub invariant-nodes : goal.invariant-nodes
invariant-nodes l = record {
  passed : AreFalling (setting_of l.table) (IsEntryPassed (state_of l.table).nodes l.vertex l.next) l.front.items;
  stands : StandsAt (state_of l.table).nodes l.vertex l.next;
}

abbrev pub decreases-nodes : goal.decreases-nodes
decreases-nodes l = left_from demand_algebra (state_of l.table).nodes l.next
