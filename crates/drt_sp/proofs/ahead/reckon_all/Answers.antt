use Rattle.std.proofs.Common.{◌<◌, ◌+◌, List, ℕ, length, ap, arith}
use Rattle.std.proofs.lemmas.List.{length-map}
use Rattle.drt_model.specs.declared.tasks.Task.{Task}
use Rattle.drt_model.specs.Digraph.{digraph_of}
use Rattle.drt_sp.proofs.Orders.{order_below}
use Rattle.drt_sp.proofs.ahead.reckon_all.Goals as goal

pub graph-graph-requires : goal.graph-graph-requires
graph-graph-requires c =
    let tasks : List Task = c.args.given.now.set.now.tasks in
    let order : List ℕ = c.args.given.now.order.now in
    let i : ℕ = c.args.place + c.loop-number.number in
    let l : i < length order = omega (arith, c.loop-number-test.true, c.loop-number.auto.number-end, c.requires.within) in
    omega (arith, order_below tasks order c.requires.order i l, ap length c.graphs-graphs.ensures.graphs, length-map tasks digraph_of)
