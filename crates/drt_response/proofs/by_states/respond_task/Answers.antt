use Rattle.std.proofs.Common.{◌≡◌, List, length, ap, ◌∙◌, arith}
use Rattle.std.proofs.lemmas.List.{length-map}
use Rattle.drt_model.specs.declared.tasks.Task.{Task}
use Rattle.drt_model.specs.Digraph.{digraph_of, vertex_count}
use Rattle.drt_graph.specs.Graphs.{graph_of}
use Rattle.drt_busy.specs.Choice.{graph_at}
use Rattle.drt_releases.proofs.Walks.{graph_same}
use Rattle.drt_response.proofs.Vertices.{responses_more, responses_next}
use Rattle.drt_response.proofs.by_states.respond_task.Goals as goal

pub graph-graph-requires : goal.graph-graph-requires
graph-graph-requires g c = omega (arith, c.requires.task, ap length c.graphs-graphs.ensures.graphs, length-map c.args.given.set.now.tasks digraph_of)

pub next_response-requires-clause-vertex : goal.next_response-requires-clause-vertex
next_response-requires-clause-vertex g c =
    let tasks : List Task = c.args.given.set.now.tasks in
    let k = c.args.task in
    let graph : c.graph-graph.result.now ≡ graph_at tasks k = c.graph-graph.ensures.graph ∙ (ap (λ gs. graph_of gs k) c.graphs-graphs.ensures.graphs ∙ graph_same tasks k c.requires.task) in
    omega (arith, c.vertices-test.true, c.vertex_count-vertex-end.ensures.count, ap (λ x. vertex_count x) graph)

pub vertices-preserved : goal.vertices-preserved
vertices-preserved g c =
    let is = rw c.in-Some.is at c.in_ok-response.ensures.response in
    let more = responses_more c.args.given.set.now c.args.task c.vertices.vertex c.vertices.responses.items c.in-Some.response c.vertices.invariant.0 is.0 is.1 is.2 in
    (rw c.in_ok-push-in-Some.ensures.items more, c.in_ok-response.ensures.ahead)

pub returns-clause-responses : goal.returns-clause-responses
returns-clause-responses g c =
    let tasks : List Task = c.args.given.set.now.tasks in
    let k = c.args.task in
    let graph : c.graph-graph.result.now ≡ graph_at tasks k = c.graph-graph.ensures.graph ∙ (ap (λ gs. graph_of gs k) c.graphs-graphs.ensures.graphs ∙ graph_same tasks k c.requires.task) in
    let all : c.vertices.vertex ≡ vertex_count (graph_at tasks k)
    = omega (arith, c.vertices-test.false, c.vertices.auto.vertex-end, c.vertex_count-vertex-end.ensures.count, ap (λ x. vertex_count x) graph) in
    λ done. responses_next c.args.given.set.now k c.vertices.vertex c.vertices.responses.items c.vertices.invariant.0 all
