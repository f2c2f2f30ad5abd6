use Rattle.std.proofs.Common.{◌<◌, length, arith}
use Rattle.std.proofs.lemmas.List.{take_more}
use Rattle.drt_graph.specs.Graphs.{no_graph, graph_of}
use Rattle.drt_rates.specs.Demands.{IsFront}
use Rattle.drt_edf_tests.proofs.Fronts.{fronts_push}
use Rattle.drt_edf_tests.proofs.horizon_tests.fronts.Goals as goal

pub tasks-preserved : goal.tasks-preserved
tasks-preserved c =
    let l : c.tasks.i < length c.args.graphs.now = omega (arith, c.tasks-test.true, c.count-i-end.ensures.count) in
    let f = take_more c.args.graphs.now c.tasks.i no_graph l in
    let is : IsFront c.graph.result.now c.args.bound c.in_ok-front.field-0 = c.in_ok-front.ensures in
    let at : IsFront (graph_of c.args.graphs.now c.tasks.i) c.args.bound c.in_ok-front.field-0 = rw c.graph.ensures.graph at is in
    rw (f, c.in_ok-push.ensures.items) (fronts_push c.args.bound _ _ _ _ c.tasks.invariant at)
