use Rattle.std.proofs.Common.{◌≡◌, ℕ, ◌+◌, ◌<◌, ◌≤◌, ◌++◌, ◌∷◌, [], List, ap, arith, refl, subst, sym, ◌∙◌}
use Rattle.std.specs.Prelude.{Any}
use Rattle.drt_model.specs.Digraph.{edge_of}
use Rattle.drt_model.specs.Walk.{wcet, work, span_of}
use Rattle.drt_model.specs.declared.tasks.Edge.{Edge}
use Rattle.drt_model.specs.declared.tasks.Vertex.{Vertex}
use Rattle.drt_claims.specs.Trees.{IsShortWalk}
use Rattle.drt_check_trees.specs.Entries.{IsWalkOver, last_in}
use Rattle.drt_check_trees.proofs.Extending.{extended_far, extended_near, short_longer, span_longer, work_longer}
use Rattle.drt_check_trees.proofs.Dominators.{short_small}
use Rattle.drt_check_trees.proofs.covering.is_extended.Goals as goal

pub overflow_add-work : goal.overflow_add-work
overflow_add-work c =
    let small = short_small c.args.bounded.now.graph.now c.keep_limits.ensures c.args.bounded.now.bound c.args.walk.now c.requires.bounded.bound c.requires.walk in
    omega (arith, small, c.requires.work)

pub has_above-requires-clause-walk : goal.has_above-requires-clause-walk
has_above-requires-clause-walk c =
    let g = c.args.bounded.now.graph.now in
    let walk : List ℕ = c.args.walk.now in
    let k : ℕ = c.args.k in
    let e : c.out_edge-edge.result.now ≡ edge_of g (last_in walk) k = c.out_edge-edge.ensures ∙ ap (λ (v : ℕ). edge_of g v k) c.last_in.ensures in
    let y : c.as_slice.result.now ≡ walk ++ (edge_of g (last_in walk) k).to ∷ [] = c.as_slice.ensures.value ∙ (c.in_ok-longer.ensures ∙ ap (λ (x : Edge). walk ++ x.to ∷ []) e) in
    let near : span_of g walk + (edge_of g (last_in walk) k).sep < c.args.bounded.now.bound = omega (arith, c.if-span-bounded.false, c.requires.span, ap (λ (x : Edge). x.sep) e) in
    subst (λ (w : List ℕ). IsShortWalk c.args.bounded.now.bound g w) (sym y) (short_longer g c.keep_limits.ensures c.args.bounded.now.bound k walk c.requires.walk c.requires.edge near)

pub has_above-requires-clause-span : goal.has_above-requires-clause-span
has_above-requires-clause-span c =
    let g = c.args.bounded.now.graph.now in
    let walk : List ℕ = c.args.walk.now in
    let k : ℕ = c.args.k in
    let e : c.out_edge-edge.result.now ≡ edge_of g (last_in walk) k = c.out_edge-edge.ensures ∙ ap (λ (v : ℕ). edge_of g v k) c.last_in.ensures in
    let y : c.as_slice.result.now ≡ walk ++ (edge_of g (last_in walk) k).to ∷ [] = c.as_slice.ensures.value ∙ (c.in_ok-longer.ensures ∙ ap (λ (x : Edge). walk ++ x.to ∷ []) e) in
    let s = span_longer g c.keep_limits.ensures c.args.bounded.now.bound k walk c.requires.walk c.requires.edge in
    omega (arith, s, ap (λ (w : List ℕ). span_of g w) y, c.requires.span, ap (λ (x : Edge). x.sep) e)

pub has_above-requires-clause-work : goal.has_above-requires-clause-work
has_above-requires-clause-work c =
    let g = c.args.bounded.now.graph.now in
    let walk : List ℕ = c.args.walk.now in
    let k : ℕ = c.args.k in
    let e : c.out_edge-edge.result.now ≡ edge_of g (last_in walk) k = c.out_edge-edge.ensures ∙ ap (λ (v : ℕ). edge_of g v k) c.last_in.ensures in
    let y : c.as_slice.result.now ≡ walk ++ (edge_of g (last_in walk) k).to ∷ [] = c.as_slice.ensures.value ∙ (c.in_ok-longer.ensures ∙ ap (λ (x : Edge). walk ++ x.to ∷ []) e) in
    let w = work_longer g walk (edge_of g (last_in walk) k).to in
    let v = ap (λ (x : Vertex). x.wcet) c.vertex.ensures in
    omega (arith, w, ap (λ (ws : List ℕ). work g ws) y, v, ap (λ (x : Edge). wcet g x.to) e, c.requires.work)

pub returns-then-span-bounded : goal.returns-then-span-bounded
returns-then-span-bounded c =
    let g = c.args.bounded.now.graph.now in
    let walk : List ℕ = c.args.walk.now in
    let k : ℕ = c.args.k in
    let e : c.out_edge-edge.result.now ≡ edge_of g (last_in walk) k = c.out_edge-edge.ensures ∙ ap (λ (v : ℕ). edge_of g v k) c.last_in.ensures in
    let far : c.args.bounded.now.bound ≤ span_of g walk + (edge_of g (last_in walk) k).sep = omega (arith, c.if-span-bounded.true, c.requires.span, ap (λ (x : Edge). x.sep) e) in
    (λ t. extended_far g c.args.bounded.now.bound k c.args.catalogue.now.tree.now walk c.requires.walk far, λ is. refl)

pub returns : goal.returns
returns c =
    let g = c.args.bounded.now.graph.now in
    let walk : List ℕ = c.args.walk.now in
    let k : ℕ = c.args.k in
    let e : c.out_edge-edge.result.now ≡ edge_of g (last_in walk) k = c.out_edge-edge.ensures ∙ ap (λ (v : ℕ). edge_of g v k) c.last_in.ensures in
    let y : c.as_slice.result.now ≡ walk ++ (edge_of g (last_in walk) k).to ∷ [] = c.as_slice.ensures.value ∙ (c.in_ok-longer.ensures ∙ ap (λ (x : Edge). walk ++ x.to ∷ []) e) in
    let near : span_of g walk + (edge_of g (last_in walk) k).sep < c.args.bounded.now.bound = omega (arith, c.if-span-bounded.false, c.requires.span, ap (λ (x : Edge). x.sep) e) in
    let both = extended_near g c.args.bounded.now.bound k c.args.catalogue.now.tree.now walk c.requires.walk near in (
      λ t. both.1 (subst (λ (w : List ℕ). Any (IsWalkOver c.args.bounded.now.bound g w) c.args.catalogue.now.tree.now.walks) y (c.has_above.ensures.0 t)),
      λ is. c.has_above.ensures.1 (subst (λ (w : List ℕ). Any (IsWalkOver c.args.bounded.now.bound g w) c.args.catalogue.now.tree.now.walks) (sym y) (both.0 is)),
    )
