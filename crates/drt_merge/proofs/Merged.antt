-- The entries of merged lists are a front.
use Rattle.std.proofs.Common.{◌≡◌, ℕ, ◌+◌, ◌<◌, ◌≤◌, List, length, get_or, refl, sym, ap, ◌∙◌, subst, inl, inr, ⊎_elim, arith}
use Rattle.std.specs.Prelude.{Any, Contains}
use Rattle.std.proofs.lemmas.List.Elements.{Contains-get_or}
use mathlib.Core.Logic.{dite}
use native.Mathlib.Decide.{dec_lt}
use Rattle.drt_model.specs.Digraph.{Digraph, IsConstrainedGraph, IsSoundGraph, vertex_count, out_degree, edge_of}
use Rattle.drt_model.specs.Walk.{deadline, last_of, span}
use Rattle.drt_graph.specs.declared.front.FrontEntry.{FrontEntry}
use Rattle.drt_claims.specs.Ranges.{IsCounted}
use Rattle.drt_claims.specs.Fronts.{HasOpenings, IsClosedFront, IsExtended}
use Rattle.drt_graph.specs.FrontEntry.{due, Covers}
use Rattle.drt_graph.specs.WalkLabel.{demand_of}
use Rattle.drt_graph.proofs.WalkLabels.{same_entry}
use Rattle.drt_wave.specs.Fronts.{IsWalkEntry, IsNonDominatedEntry, IsExactFront, CoversAll}
use Rattle.drt_merge.specs.declared.mark.Mark.{Mark}
use Rattle.drt_merge.specs.Arcs.{arc_of, extended}
use Rattle.drt_merge.specs.Marks.{row, mark_at, entry_of, opening_mark, IsCovered}
use Rattle.drt_merge.specs.Merging.{AreMerged}
use Rattle.drt_merge.specs.Gathered.{AreMarkEntries, IsMergedFront}
use Rattle.drt_merge.proofs.Closed.{covered}

any_of : {X : Type 0} (P : X → Type 0) (xs : List X) (x : X) → Contains xs x → P x → Any P xs
any_of P xs x has is = (has.0, x, has.1, has.2, is)

module _ (g : Digraph) (bound : ℕ) (sound : IsSoundGraph g) (constrained : IsConstrainedGraph g) (lists : List (List Mark)) (merged : AreMerged g bound lists)
    (front : List FrontEntry) (are : AreMarkEntries lists front) where
  -- An entry is the label of a walk.
  entry_walk : (e : FrontEntry) → Contains front e → IsWalkEntry g bound e
  entry_walk e has =
      let m = are.each e has in let c = merged.rows.count in let l = m.vertex in
      subst (IsWalkEntry g bound) (sym m.is) ((merged.rows.each e.vertex (omega (arith, c, l))).walks m.place m.there)

  -- What a mark covers an entry covers.
  any_covers : (v : ℕ) (m : Mark) → v < vertex_count g → IsCovered (row lists v) m → Any (Covers v m.offset m.work) front
  any_covers v m lv is =
      let c = merged.rows.count in
      any_of (Covers v m.offset m.work) front (entry_of v (mark_at (row lists v) is.place)) (are.all v is.place (omega (arith, c, lv)) is.there) (refl, is.over.0, is.over.1)

  openings : HasOpenings bound g front
  openings v lv due = any_covers v (opening_mark g v) lv (merged.opened v lv due)

  -- One entry, by the mark that it is of.
  closed_entry : (v i : ℕ) → v < vertex_count g → i < length (row lists v) → (k : ℕ) → k < out_degree g v → IsExtended bound g front (entry_of v (mark_at (row lists v) i)) k
  closed_entry v i lv li k lk = ⊎_elim
      (λ (far : bound < (mark_at (row lists v) i).offset + (arc_of g v k).sep + (arc_of g v k).deadline). inl far)
      (λ (is : IsCovered (row lists (arc_of g v k).target) (extended (arc_of g v k) (mark_at (row lists v) i))). inr
      (any_covers (edge_of g v k).to (extended (arc_of g v k) (mark_at (row lists v) i)) (sound.to v k lv lk) is))
      (merged.closed v i k lv li lk)

  closed : IsClosedFront bound g front
  closed n d ln =
      let e : FrontEntry = get_or front n d in
      let m = are.each e (Contains-get_or front n d ln) in
      let c = merged.rows.count in let l = m.vertex in
      let lv : e.vertex < vertex_count g = omega (arith, c, l) in
      let P : FrontEntry → Type 0 = λ x. (k : ℕ) → k < out_degree g x.vertex → IsExtended bound g front x k in
      subst P (sym m.is) (closed_entry e.vertex m.place lv m.there)

  -- Each walk that is due within the bound is covered.
  covers_all : CoversAll (IsWalkEntry g bound) front
  covers_all e w =
      let within : due g (demand_of g w.first w.others) ≤ bound = subst (λ x. due g x ≤ bound) w.label.is w.within in
      let is = covered g sound constrained bound front openings closed w.first w.others w.label.is_vertex w.label.path (omega (arith, within)) in
      subst (λ (x : FrontEntry). Any (Covers x.vertex x.offset x.work) front) (sym w.label.is) is

  -- Two entries of one vertex, of which the first covers the second, are equal.
  one_entry : (f e : FrontEntry) → Contains front f → Contains front e → f.vertex ≡ e.vertex → f.offset ≤ e.offset → e.work ≤ f.work → f ≡ e
  one_entry f e hf he vertex early much =
      let m = are.each f hf in let n = are.each e he in
      let p : ℕ = m.place in let q : ℕ = n.place in
      let c = merged.rows.count in let lv = n.vertex in
      let r = merged.rows.each e.vertex (omega (arith, c, lv)) in
      let long : length (row lists f.vertex) ≡ length (row lists e.vertex) = ap (λ z. length (row lists z)) vertex in
      let mt = m.there in let nt = n.there in
      let at : mark_at (row lists f.vertex) p ≡ mark_at (row lists e.vertex) p = ap (λ z. mark_at (row lists z) p) vertex in
      let fo : f.offset ≡ (mark_at (row lists e.vertex) p).offset = ap (λ (z : FrontEntry). z.offset) m.is ∙ ap (λ (z : Mark). z.offset) at in
      let fw : f.work ≡ (mark_at (row lists e.vertex) p).work = ap (λ (z : FrontEntry). z.work) m.is ∙ ap (λ (z : Mark). z.work) at in
      let eo : e.offset ≡ (mark_at (row lists e.vertex) q).offset = ap (λ (z : FrontEntry). z.offset) n.is in
      let ew : e.work ≡ (mark_at (row lists e.vertex) q).work = ap (λ (z : FrontEntry). z.work) n.is in
      dite (dec_lt p q)
      (λ l. let less = r.works p q l nt in absurd (omega (arith, less, fw, ew, much)))
      (λ nl. dite (dec_lt q p)
      (λ l. let less = r.offsets q p l (omega (arith, mt, long)) in absurd (omega (arith, less, fo, eo, early)))
      (λ nm.
      let same : p ≡ q = omega arith in
      let so : (mark_at (row lists e.vertex) p).offset ≡ (mark_at (row lists e.vertex) q).offset = ap (λ z. (mark_at (row lists e.vertex) z).offset) same in
      let sw : (mark_at (row lists e.vertex) p).work ≡ (mark_at (row lists e.vertex) q).work = ap (λ z. (mark_at (row lists e.vertex) z).work) same in
      same_entry f e vertex (omega (arith, fo, so, eo)) (omega (arith, fw, sw, ew))))

  exact : IsExactFront bound g front
  exact e = (λ has. record { label = entry_walk e has; alone = alone has }, λ n. back n (covers_all e n.label))
    where
      alone : Contains front e → (d : FrontEntry) → IsWalkEntry g bound d → Covers e.vertex e.offset e.work d → d ≡ e
      alone has d walk (vertex, early, much) = go (covers_all d walk)
        where
          go : Any (Covers d.vertex d.offset d.work) front → d ≡ e
          go (k, f, lt, at, (same, before, more)) =
              let one = one_entry f e (k, lt, at) has (same ∙ vertex) (omega (arith, before, early)) (omega (arith, much, more)) in
              let o = ap (λ (z : FrontEntry). z.offset) one in let w = ap (λ (z : FrontEntry). z.work) one in
              same_entry d e vertex (omega (arith, o, before, early)) (omega (arith, w, much, more))

      back : IsNonDominatedEntry (IsWalkEntry g bound) e → Any (Covers e.vertex e.offset e.work) front → Contains front e
      back n (k, f, lt, at, by) = subst (Contains front) (n.alone f (entry_walk f (k, lt, at)) by) (k, lt, at)

  pub merged_front_is : IsCounted front → IsMergedFront g bound front
  merged_front_is counted = record { ordered = are.ordered; exact = exact; covers = covers_all; counted = counted }
