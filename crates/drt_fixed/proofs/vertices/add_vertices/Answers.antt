use Rattle.std.proofs.Common.{◌≡◌, ◌<◌, ◌≤◌, ℕ, All, length, ap, subst, sym, arith}
use Rattle.std.proofs.lemmas.List.{length-map}
use Rattle.std.proofs.lemmas.List.Elements.{All-push}
use Rattle.drt_model.specs.Numbers.{most_time}
use Rattle.drt_model.specs.Digraph.{digraph_of, vertex_count}
use Rattle.drt_model.specs.Walk.{deadline}
use Rattle.drt_graph.specs.Graphs.{graph_of}
use Rattle.drt_fixed.specs.Searching.{IsVertexPlaced, graphs_given}
use Rattle.drt_fixed.specs.declared.vertices.PlacedVertex.{PlacedVertex}
use Rattle.drt_fixed.specs.declared.vertices.VertexAt.{VertexAt}
use Rattle.drt_fixed.proofs.vertices.add_vertices.Goals as goal

pub placed_vertex-requires : goal.placed_vertex-requires
placed_vertex-requires c = subst (λ (n : ℕ). c.loop-vertex.vertex < n) c.vertex_count-vertex-end.ensures.count c.loop-vertex-test.true

pub loop-vertex-preserved : goal.loop-vertex-preserved
loop-vertex-preserved c =
    let Is : PlacedVertex → Type 0 = IsVertexPlaced c.args.given in
    let tasks = c.args.given.set.now.tasks in
    let graphs = graphs_given c.args.given in
    let same = rw c.graphs-graphs.ensures.graphs at c.graph-graph.ensures.graph in
    let u = c.loop-vertex.vertex in
    let here : u < vertex_count c.graph-graph.result.now = subst (λ (n : ℕ). u < n) c.vertex_count-vertex-end.ensures.count c.loop-vertex-test.true in
    let at = sym c.placed_vertex.ensures.at in
    let is : Is c.placed_vertex.result = record {
      place = subst (λ (n : ℕ). n < length c.args.given.order.now) (sym c.placed_vertex.ensures.place) c.requires.place;
      task = subst (λ (a : VertexAt). a.task < length tasks) at (omega (arith, c.requires.given.order c.args.place 0 c.requires.place, length-map tasks digraph_of));
      vertex = subst (λ (a : VertexAt). a.vertex < vertex_count (graph_of graphs a.task)) at (subst (λ g. u < vertex_count g) same here);
      deadline = subst (λ (a : VertexAt). a.deadline ≡ deadline (graph_of graphs a.task) a.vertex) at (ap (λ g. deadline g u) same);
      near = subst (λ (a : VertexAt). a.deadline ≤ most_time) at (c.graph-graph.ensures.sound.deadline u here).1;
    } in
    subst (All Is) (sym c.in_ok-push.ensures.items) (All-push Is c.loop-vertex.vertices.items c.placed_vertex.result c.loop-vertex.invariant is)
