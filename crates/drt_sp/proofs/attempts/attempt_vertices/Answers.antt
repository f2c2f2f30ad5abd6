-- One more attempt.
use Rattle.std.proofs.Common.{◌<◌, ◌≤◌, ◌+◌, List, Option, sym, ap, subst, arith}
use Rattle.drt_model.specs.Numbers.{most_time}
use Rattle.drt_model.specs.Digraph.{vertex_count}
use Rattle.drt_model.specs.declared.tasks.Vertex.{Vertex}
use Rattle.drt_sp.specs.Attempts.{IsAttempt}
use Rattle.drt_sp.specs.declared.attempts.Attempt.{Attempt}
use Rattle.drt_sp.specs.declared.proving.VertexProof.{VertexProof}
use Rattle.drt_sp.proofs.FirstVertices.{posed_vertex}
use Rattle.drt_sp.proofs.Attempted.{AreAttempted, attempt_fails, attempt_passes, attempt_spends}
use Rattle.drt_sp.proofs.attempts.attempt_vertices.Goals.{in-Passes+in_ok-push-in-Passes, in-Spent+in_ok-push-in-Spent+in_ok-push-in-Spent-2}
use Rattle.drt_sp.proofs.attempts.attempt_vertices.Goals as goal

pub refine_vertex-requires : goal.refine_vertex-requires
refine_vertex-requires c =
    let g = c.args.posed.now.graph.now in
    let n = c.loop-vertex.vertex in
    let l : n < vertex_count g = omega (arith, c.loop-vertex-test.true, c.vertex_count-vertex-end.ensures.count) in
    let same = c.vertex-subject.ensures in
    posed_vertex _ g n c.vertex_count-vertex-end.ensures.sound l (ap (λ (v : Vertex). v.wcet) same) (ap (λ (v : Vertex). v.deadline) same)
    c.requires.few (c.requires.roots n l)

pub returns-in-Fails-clause-proofs : goal.returns-in-Fails-clause-proofs
returns-in-Fails-clause-proofs c =
    let is = rw (c.in-Fails.is, c.vertex-subject.ensures) at c.in_ok-items.ensures in
    rw c.in_ok-push-in-Fails.ensures.items
    (attempt_fails c.args.posed.now.forest.now c.args.posed.now.roots.now c.args.posed.now.graph.now c.loop-vertex.vertex
    c.loop-vertex.proofs.items c.loop-vertex.spent.items c.loop-vertex.invariant c.in-Fails.tuple is)

pub loop-vertex-preserved : goal.loop-vertex-preserved
loop-vertex-preserved c =
    let f = c.args.posed.now.forest.now in
    let roots = c.args.posed.now.roots.now in
    let n = c.loop-vertex.vertex in
    let l : n < vertex_count c.args.posed.now.graph.now = omega (arith, c.loop-vertex-test.true, c.vertex_count-vertex-end.ensures.count) in
    let sound = c.vertex_count-vertex-end.ensures.sound in
    let Known : List (Option VertexProof) → List Attempt → Type 0 = AreAttempted f roots c.args.posed.now.graph.now (n + 1) in
    elim c.match-branch-2.branch as (λ _. Known c.match-branch-2.proofs.items c.match-branch-2.spent.items) [
      | in-Passes+in_ok-push-in-Passes w ↦ (
          let is = rw (w.in-Passes.is, c.vertex-subject.ensures) at c.in_ok-items.ensures in
          let made = attempt_passes f roots c.args.posed.now.graph.now n c.loop-vertex.proofs.items c.loop-vertex.spent.items c.loop-vertex.invariant w.in-Passes.items is.0 is.1 is.2 in
          rw (w.proofs-is, w.spent-is, w.in_ok-push-in-Passes.ensures.items) made)
      | in-Spent+in_ok-push-in-Spent+in_ok-push-in-Spent-2 w ↦ (
          let is = rw (w.in-Spent.is) at c.in_ok-items.ensures in
          let subject = c.vertex-subject.result.now in
          let a : Attempt = record { vertex = n; wcet = subject.wcet; deadline = subject.deadline; frontier = w.in-Spent.frontier } in
          let attempt : IsAttempt f roots c.args.posed.now.graph.now a = record {
            steps = c.at_most-effort.result.budget;
            vertex = l;
            wcet_is = ap (λ (v : Vertex). v.wcet) c.vertex-subject.ensures;
            deadline_is = ap (λ (v : Vertex). v.deadline) c.vertex-subject.ensures;
            wcet_small = subst (λ (v : Vertex). v.wcet ≤ most_time) (sym c.vertex-subject.ensures) (let t = sound.wcet n l in omega arith);
            deadline_small = subst (λ (v : Vertex). v.deadline ≤ most_time) (sym c.vertex-subject.ensures) (let t = sound.deadline n l in omega arith);
            few_roots = c.requires.few;
            spent = is;
          } in
          let made = attempt_spends f roots c.args.posed.now.graph.now n c.loop-vertex.proofs.items c.loop-vertex.spent.items c.loop-vertex.invariant a attempt in
          rw (w.proofs-is, w.spent-is, w.in_ok-push-in-Spent.ensures.items, w.in_ok-push-in-Spent-2.ensures.items) made)
    ]
