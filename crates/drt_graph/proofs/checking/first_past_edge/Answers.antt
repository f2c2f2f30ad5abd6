use Rattle.std.proofs.Common.{◌<◌, ◌≡◌, ◌∙◌, List, All, IsTrue, length, take, subst, arith, rules}
use Rattle.std.proofs.lemmas.List.{take_all}
use Rattle.std.proofs.lemmas.List.Elements.{All-more}
use Rattle.drt_model.specs.declared.tasks.Edge.{Edge}
use Rattle.drt_model.specs.Constrained.{IsConstrainedEdge}
use Rattle.drt_model.specs.Digraph.{no_edge}
use Rattle.drt_graph.proofs.checking.first_past_edge.Goals as goal

pub loop-k-preserved : goal.loop-k-preserved
loop-k-preserved c =
    let l : c.loop-k.k < length c.as_slice-edges.result.now = omega arith in
    let t : IsTrue c.is_constrained.result = search rules in
    All-more (IsConstrainedEdge c.args.task.now) c.as_slice-edges.result.now c.loop-k.k no_edge l c.loop-k.invariant (rw c.as_slice-vertices.ensures at (c.is_constrained.ensures.0 t))

pub returns : goal.returns
returns c =
    let e : take c.loop-k.k c.as_slice-edges.result.now ≡ c.as_slice-edges.result.now = take_all c.loop-k.k c.as_slice-edges.result.now (omega arith) in
    subst (λ (es : List Edge). All (IsConstrainedEdge c.args.task.now) es) (e ∙ c.as_slice-edges.ensures) c.loop-k.invariant
