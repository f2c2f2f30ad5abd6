use Rattle.std.proofs.Common.{◌<◌, length, arith}
use Rattle.std.proofs.lemmas.List.{take_more}
use Rattle.drt_graph.specs.Graphs.{no_graph, graph_of}
use Rattle.drt_horizon.specs.Given.{IsRatioGiven}
use Rattle.drt_horizon.proofs.Givens.{given_push}
use Rattle.drt_horizon.proofs.given.ratios.Goals as goal

pub tasks-preserved : goal.tasks-preserved
tasks-preserved c =
    let l : c.tasks.i < length c.args.graphs.now = omega (arith, c.tasks-test.true, c.count-i-end.ensures.count) in
    let f = take_more c.args.graphs.now c.tasks.i no_graph l in
    let is : IsRatioGiven c.graph.result.now c.in_ok-greatest.field-0 = record
    { greatest = c.in_ok-greatest.ensures.greatest; reach = c.in_ok-greatest.ensures.reach; keeps = c.in_ok-greatest.ensures.keeps } in
    let at : IsRatioGiven (graph_of c.args.graphs.now c.tasks.i) c.in_ok-greatest.field-0 = rw c.graph.ensures.graph at is in
    rw (f, c.in_ok-push.ensures.items) (given_push _ _ _ _ c.tasks.invariant at)
