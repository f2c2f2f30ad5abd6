use Rattle.std.proofs.Common.{List, length, ap, arith}
use Rattle.std.proofs.lemmas.List.{length-map}
use Rattle.drt_model.specs.declared.tasks.Task.{Task}
use Rattle.drt_model.specs.Digraph.{digraph_of}
use Rattle.drt_sp.proofs.Orders.{order_below}
use Rattle.drt_sp.proofs.ahead.search_at.Goals as goal

pub graph-graph-requires : goal.graph-graph-requires
graph-graph-requires c =
    let tasks : List Task = c.args.given.now.set.now.tasks in
    omega (arith, order_below tasks c.args.given.now.order.now c.requires.order c.args.place c.requires.here, ap length c.graphs-graphs.ensures.graphs, length-map tasks digraph_of)
