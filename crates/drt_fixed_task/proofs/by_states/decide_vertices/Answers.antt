-- A time passes at one vertex more, and where it does at each, no job of the task misses.
use Rattle.std.proofs.Common.{◌≡◌, ℕ, List, ap, below_more, arith, ◌∙◌}
use Rattle.drt_model.specs.Contents.{Contents}
use Rattle.drt_model.specs.Digraph.{Digraph, vertex_count}
use Rattle.drt_graph.specs.Graphs.{graph_of}
use Rattle.drt_busy.specs.Choice.{graph_at}
use Rattle.drt_releases.proofs.Walks.{graph_same}
use Rattle.drt_sp.specs.Choices.{VertexPasses}
use Rattle.drt_sp_task.specs.Task.{TaskPasses}
use Rattle.drt_fixed_task.proofs.by_states.decide_vertices.Goals as goal

pub vertices-preserved : goal.vertices-preserved
vertices-preserved g c =
    let passes = rw c.in-Passes.is at c.in_ok-searched.ensures in
    below_more (λ v. VertexPasses c.args.given.set.now.tasks c.args.given.task v) c.vertices.vertex c.vertices.invariant passes

pub returns : goal.returns
returns g c =
    let set : Contents = c.args.given.set.now in
    let k : ℕ = c.args.given.task in
    let own : Digraph = graph_of c.graphs.result.now k in
    let same : own ≡ graph_at set.tasks k = ap (λ (gs : List Digraph). graph_of gs k) c.graphs.ensures.graphs ∙ graph_same set.tasks k c.requires.given.task in
    let first : c.graph-graph.result.now ≡ own = c.graph-graph.ensures.graph in
    let graph : c.graph-graph.result.now ≡ graph_at set.tasks k = ◌∙◌ {b = own} first same in
    let passes : TaskPasses set.tasks k
    = λ v l. c.vertices.invariant v (omega (arith, l, ap (λ x. vertex_count x) graph, c.vertices-test.false, c.vertex_count-vertex-end.ensures.count)) in
    record { meets = c.times_suffice_for_task.ensures set.version set.tasks c.keep_limits.ensures.limits c.keep_limits.ensures.constrained k passes; passes = passes }
