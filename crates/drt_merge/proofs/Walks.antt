-- Walks that go on by an arc.
use Rattle.std.proofs.Common.{◌≡◌, ℕ, ◌+◌, ◌<◌, ◌≤◌, List, [], ◌∷◌, ◌++◌, refl, sym, ap, subst, inl, inr, ⊎_elim, arith}
use Rattle.std.specs.Prelude.{Contains}
use Rattle.std.proofs.lemmas.List.Elements.{All-push, Contains-push, Contains-append_left}
use mathlib.Core.Logic.{dite}
use native.Mathlib.Decide.{dec_lt}
use Rattle.drt_model.specs.Digraph.{Digraph, IsSoundGraph, vertex_count, out_degree, edge_of}
use Rattle.drt_model.specs.Walk.{IsEdge, deadline, gap, wcet}
use Rattle.drt_graph.proofs.Edges.{sep_of_edge, gap_of}
use Rattle.drt_graph.proofs.WalkLabels.{label_one, label_more}
use Rattle.drt_wave.specs.Fronts.{IsWalkEntry}
use Rattle.drt_merge.specs.declared.mark.Mark.{Mark}
use Rattle.drt_merge.specs.declared.arcs.Arc.{Arc}
use Rattle.drt_merge.specs.Arcs.{arc_of, IsArc, AreArcs, AreArcsTo, extended}
use Rattle.drt_merge.specs.Marks.{entry_of, opening_mark, IsSmallMark}

-- The walk of one vertex.
pub opening_walk : (g : Digraph) (bound v : ℕ) → v < vertex_count g → deadline g v ≤ bound → IsWalkEntry g bound (entry_of v (opening_mark g v))
opening_walk g bound v lv near = record { first = v; others = []; label = label_one g v lv; within = omega (arith, near) }

-- A walk that goes on by an edge, and is due within the bound.
pub walk_edge : (g : Digraph) (bound u v : ℕ) (m : Mark) → IsWalkEntry g bound (entry_of u m) → IsEdge g u v → m.offset + gap g u v + deadline g v ≤ bound
    → IsWalkEntry g bound (entry_of v (record { offset = m.offset + gap g u v; work = m.work + wcet g v }))
walk_edge g bound u v m walk edge near =
    record { first = walk.first; others = walk.others ++ v ∷ []; label = label_more g walk.first walk.others (entry_of u m) v walk.label edge; within = near }

module _ (g : Digraph) (sound : IsSoundGraph g) where
  pub target_within : (a : Arc) → IsArc g a → a.target < vertex_count g
  target_within a is = let t = ap (λ (z : Arc). z.target) is.is in let l = sound.to a.source is.number is.vertex is.edge in omega (arith, t, l)

  -- The same for an arc.
  pub walk_arc : (bound : ℕ) (a : Arc) (m : Mark) → IsArc g a → IsWalkEntry g bound (entry_of a.source m) → m.offset + a.sep + a.deadline ≤ bound
      → IsWalkEntry g bound (entry_of a.target (extended a m))
  walk_arc bound a m is walk near = subst (λ z. IsWalkEntry g bound (entry_of z.target (extended z m))) (sym is.is) (go a.source is.number is.vertex is.edge walk due)
    where
      due : m.offset + (arc_of g a.source is.number).sep + (arc_of g a.source is.number).deadline ≤ bound
      due = subst (λ z. m.offset + z.sep + z.deadline ≤ bound) is.is near

      go : (u k : ℕ) → u < vertex_count g → k < out_degree g u → IsWalkEntry g bound (entry_of u m) → m.offset + (arc_of g u k).sep + (arc_of g u k).deadline ≤ bound
          → IsWalkEntry g bound (entry_of (arc_of g u k).target (extended (arc_of g u k) m))
      go u k lu lk walk near =
          let v = (edge_of g u k).to in
          let q = gap_of g u v (edge_of g u k).sep (sep_of_edge g sound u k lu lk) in
          let e : gap g u v ≡ (edge_of g u k).sep = q.0 in
          subst (λ s. IsWalkEntry g bound (entry_of v (record { offset = m.offset + s; work = m.work + wcet g v }))) e
          (walk_edge g bound u v m walk q.1 (omega (arith, e, near)))

  pub small_arc : (a : Arc) (m : Mark) → IsArc g a → IsSmallMark m → IsSmallMark (extended a m)
  small_arc a m is small =
      let s = ap (λ (z : Arc). z.sep) is.is in let w = ap (λ (z : Arc). z.wcet) is.is in
      let sep = sound.sep a.source is.number is.vertex is.edge in
      let sl = sep.0 in
      let t = sound.wcet (edge_of g a.source is.number).to (sound.to a.source is.number is.vertex is.edge) in
      let tm = t.1 in
      omega (arith, s, w, sl, tm, small)

-- The arcs, one more.
pub arcs_more : (g : Digraph) (u k : ℕ) (arcs new : List Arc) → u < vertex_count g → k < out_degree g u → AreArcsTo g u k arcs → new ≡ arcs ++ arc_of g u k ∷ [] → AreArcsTo g u (k + 1) new
arcs_more g u k arcs new lu lk are is = subst (AreArcsTo g u (k + 1)) (sym is) record {
  each = All-push (IsArc g) arcs (arc_of g u k) are.each (record { number = k; vertex = lu; edge = lk; is = refl });
  all = λ v j lv lj b. ⊎_elim
      (λ (l : v < u). Contains-append_left arcs (arc_of g u k ∷ []) (arc_of g v j) (are.all v j lv lj (inl l)))
      (λ (l : (v ≡ u) × (j < k + 1)). dite (dec_lt j k)
      (λ early. Contains-append_left arcs (arc_of g u k ∷ []) (arc_of g v j) (are.all v j lv lj (inr (l.0, early))))
      (λ late.
      let l1 = l.1 in let at : j ≡ k = omega (arith, l1) in
      let same : arc_of g u k ≡ arc_of g v j = ap (λ (q : ℕ × ℕ). arc_of g q.0 q.1) (λ t. (sym l.0 t, sym at t)) in
      subst (Contains (arcs ++ arc_of g u k ∷ [])) same (Contains-push arcs (arc_of g u k)))) b;
}

-- The next vertex.
pub arcs_next : (g : Digraph) (u k : ℕ) (arcs : List Arc) → k ≡ out_degree g u → AreArcsTo g u k arcs → AreArcsTo g (u + 1) 0 arcs
arcs_next g u k arcs end are = record {
  each = are.each;
  all = λ v j lv lj b. are.all v j lv lj (⊎_elim
      (λ (l : v < u + 1). dite (dec_lt v u) (λ less. inl less)
      (λ nless. let e : v ≡ u = omega arith in let d : out_degree g v ≡ out_degree g u = ap (λ z. out_degree g z) e in inr (e, omega (arith, d, end, lj))))
      (λ (l : (v ≡ u + 1) × (j < 0)). let l1 = l.1 in absurd (omega (arith, l1))) b);
}

pub arcs_none : (g : Digraph) (arcs : List Arc) → arcs ≡ [] → AreArcsTo g 0 0 arcs
arcs_none g arcs is = subst (AreArcsTo g 0 0) (sym is) record {
  each = λ k d l. absurd (omega arith);
  all = λ v j lv lj b. ⊎_elim (λ (l : v < 0). absurd (omega arith)) (λ (l : (v ≡ 0) × (j < 0)). let l1 = l.1 in absurd (omega (arith, l1))) b;
}

pub arcs_all : (g : Digraph) (u : ℕ) (arcs : List Arc) → u ≡ vertex_count g → AreArcsTo g u 0 arcs → AreArcs g arcs
arcs_all g u arcs end are = record { each = are.each; all = λ v j lv lj. are.all v j lv lj (inl (omega (arith, end, lv))) }
