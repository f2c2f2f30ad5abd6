-- The next node, if there is one, is kept; fewer are left.
use Rattle.drt_demand.specs.Demand.{demand_algebra}
use Rattle.drt_table.specs.KeptOrder.{left_from}
use Rattle.drt_table.specs.View.{state_of}
use Rattle.drt_rows_tests.proofs.Conditions.{IsKeptNext}
use Rattle.drt_rows_tests.proofs.tests.add_kept.Given as goal

abbrev pub invariant-nodes : goal.invariant-nodes
invariant-nodes l = IsKeptNext l.table l.next

abbrev pub decreases-nodes : goal.decreases-nodes
decreases-nodes l = left_from demand_algebra (state_of l.table).nodes l.next
