use Rattle.std.proofs.Common.{ap, arith, length}
use Rattle.std.proofs.lemmas.List.{length-map}
use Rattle.drt_model.specs.Digraph.{digraph_of}
use Rattle.drt_check_searches.proofs.Orders.{graph_here, order_below, place_in}
use Rattle.drt_check_searches.proofs.places.graph_at.Goals as goal

pub bounds-order-place : goal.bounds-order-place
bounds-order-place c = place_in c.args.set.now.tasks c.args.order.now c.requires.order c.args.place c.requires.place

pub graph-requires : goal.graph-requires
graph-requires c =
    let tasks = c.args.set.now.tasks in
    let below = order_below tasks c.args.order.now c.requires.order c.args.place (place_in tasks c.args.order.now c.requires.order c.args.place c.requires.place) in
    omega (arith, below, ap length c.requires.graphs, length-map tasks digraph_of)

pub returns : goal.returns
returns c = graph_here c.args.set.now.tasks c.args.order.now c.requires.order c.args.graphs.now c.args.place c.graph.result.now c.requires.graphs c.requires.place c.graph.ensures.graph
