use Rattle.std.proofs.Common.{◌<◌, arith, sym, subst}
use Rattle.drt_demand.specs.Demand.{demand_algebra}
use Rattle.drt_table.specs.KeptOrder.{left_from}
use Rattle.drt_table.specs.View.{state_of}
use Rattle.drt_table.proofs.KeptOrder.{less_left}
use Rattle.drt_rows_tests.proofs.Conditions.{first_next, later_next}
use Rattle.drt_rows_tests.proofs.tests.add_kept.Goals as goal

pub nodes-init : goal.nodes-init
nodes-init c = first_next c.args.table.now c.args.vertex c.first_kept-next.result c.first_kept-next.ensures

pub next_kept-next-requires-after_bounds : goal.next_kept-next-requires-after_bounds
next_kept-next-requires-after_bounds c κs = c.nodes.invariant c.in-Some.node c.in-Some.is

pub nodes-smaller : goal.nodes-smaller
nodes-smaller c =
    let nodes = (state_of c.args.table.now).nodes in
    let f = c.nodes.invariant c.in-Some.node c.in-Some.is in
    subst (λ o. left_from demand_algebra nodes c.next_kept-next.result < left_from demand_algebra nodes o) (sym c.in-Some.is)
    (less_left demand_algebra nodes f.0.label.vertex c.in-Some.node f.0 c.next_kept-next.result f.1 (c.next_kept-next.ensures f.0 f.1))

pub nodes-preserved : goal.nodes-preserved
nodes-preserved c =
    let f = c.nodes.invariant c.in-Some.node c.in-Some.is in
    later_next c.args.table.now c.in-Some.node f.0 c.next_kept-next.result (c.next_kept-next.ensures f.0 f.1)
