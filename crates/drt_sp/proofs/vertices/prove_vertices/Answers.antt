use Rattle.std.proofs.Common.{◌<◌, ◌≤◌, ap, arith}
use Rattle.drt_model.specs.Digraph.{vertex_count}
use Rattle.drt_model.specs.declared.tasks.Vertex.{Vertex}
use Rattle.drt_sp.proofs.FirstVertices.{posed_vertex, proofs_more, stop_at}
use Rattle.drt_sp.specs.Attempts.{AreGiven}
use Rattle.drt_sp.proofs.vertices.prove_vertices.Goals.{then-vertex-len+in_ok-ahead, else-vertex-len}
use Rattle.drt_sp.proofs.vertices.prove_vertices.Goals as goal

pub take_or_prove-requires-clause-vertex : goal.take_or_prove-requires-clause-vertex
take_or_prove-requires-clause-vertex g c =
    let n = c.vertices.vertex in
    let l : n < vertex_count c.args.graph.now = omega (arith, c.vertices-test.true, c.vertex_count-vertex-end.ensures.count) in
    let same = c.vertex-subject.ensures in
    posed_vertex _ c.args.graph.now n c.vertex_count-vertex-end.ensures.sound l (ap (λ (v : Vertex). v.wcet) same) (ap (λ (v : Vertex). v.deadline) same)
    c.requires.few (c.requires.roots n l)

pub returns-in-Fails : goal.returns-in-Fails
returns-in-Fails g c =
    let l : c.vertices.vertex < vertex_count c.args.graph.now = omega (arith, c.vertices-test.true, c.vertex_count-vertex-end.ensures.count) in
    let is = rw (c.in-Fails.is, c.vertex-subject.ensures) at c.in_ok-items.ensures in
    (stop_at c.args.forest.now c.args.roots.now c.args.graph.now c.args.task c.vertices.vertex c.vertices.proofs.items l c.vertices.invariant.proofs, is)

pub returns-in-Spent : goal.returns-in-Spent
returns-in-Spent g c =
    let l : c.vertices.vertex < vertex_count c.args.graph.now = omega (arith, c.vertices-test.true, c.vertex_count-vertex-end.ensures.count) in
    let is = rw (c.in-Spent.is, c.vertex-subject.ensures) at c.in_ok-items.ensures in
    (stop_at c.args.forest.now c.args.roots.now c.args.graph.now c.args.task c.vertices.vertex c.vertices.proofs.items l c.vertices.invariant.proofs, is)

pub vertices-preserved : goal.vertices-preserved
vertices-preserved g c =
    let f = c.args.forest.now in
    let roots = c.args.roots.now in
    let graph = c.args.graph.now in
    let v = c.vertices.vertex in
    let l : v < vertex_count graph = omega (arith, c.vertices-test.true, c.vertex_count-vertex-end.ensures.count) in
    let few : c.args.task ≤ 4294967295 = omega (arith, c.ranges.task.fits) in
    let is = rw (c.in-Passes.is, c.vertex-subject.ensures) at c.in_ok-items.ensures in
    let more = proofs_more f roots graph c.args.task v c.vertices.proofs.items c.in-Passes.items c.vertex_count-vertex-end.ensures.sound few l c.vertices.invariant.proofs is.0 is.1 is.2 in
    let given : AreGiven f roots graph c.if-vertex-len.ahead.found.items = elim c.if-vertex-len.branch as (λ _. AreGiven f roots graph c.if-vertex-len.ahead.found.items) [
      | then-vertex-len+in_ok-ahead w ↦ rw w.ahead-is w.in_ok-ahead.ensures
      | else-vertex-len w ↦ rw w.ahead-is c.vertices.invariant.found
    ] in
    record {
      proofs = rw c.in_ok-push-in-Passes.ensures.items more;
      found = λ k proof at. given k proof (c.take_at.ensures.left k proof at);
    }
