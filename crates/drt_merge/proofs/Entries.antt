-- The entries of the lists, gathered in order.
use Rattle.std.proofs.Common.{◌≡◌, ℕ, suc, ◌+◌, ◌<◌, List, [], ◌∷◌, ◌++◌, length, refl, sym, ap, subst, inl, inr, ⊎_elim, arith}
use Rattle.std.specs.Prelude.{Contains}
use Rattle.std.proofs.lemmas.List.Elements.{Contains-append_left, Contains-push, Contains-push_cases}
use Rattle.drt_graph.specs.FrontEntry.{IsNextEntry}
use mathlib.Core.Logic.{dite}
use native.Mathlib.Decide.{dec_lt}
use Rattle.drt_model.specs.Digraph.{Digraph, vertex_count}
use Rattle.drt_model.specs.Legal.{AllNeighbours}
use Rattle.drt_model.proofs.Neighbours.{AllNeighbours-one, AllNeighbours-head, AllNeighbours-tail, AllNeighbours-cons}
use Rattle.drt_graph.specs.declared.front.FrontEntry.{FrontEntry}
use Rattle.drt_merge.specs.declared.mark.Mark.{Mark}
use Rattle.drt_merge.specs.Marks.{row, mark_at, entry_of, AreRows}
use Rattle.drt_merge.specs.Gathered.{IsOfMark, IsMarkBefore, AreMarksGathered, AreMarkEntries}

-- One more at the end of a list, which stands behind each of it.
neighbours_more : {X : Type 0} (R : X → X → Type 0) (xs : List X) (y : X) → AllNeighbours R xs → ((x : X) → Contains xs x → R x y) → AllNeighbours R (xs ++ y ∷ [])
neighbours_more R [] y n all = AllNeighbours-one R y
neighbours_more R (x ∷ []) y n all = AllNeighbours-cons R x y [] (all x (0, omega arith, refl)) (AllNeighbours-one R y)
neighbours_more R (x ∷ (z ∷ zs)) y n all =
    AllNeighbours-cons R x z (zs ++ y ∷ []) (AllNeighbours-head R x z zs n)
    (neighbours_more R (z ∷ zs) y (AllNeighbours-tail R x (z ∷ zs) n) (λ w has. all w (suc has.0, omega (arith, has.1), has.2)))

module _ (lists : List (List Mark)) where
  -- The list before the first vertex is empty.
  pub none_gathered : (entries : List FrontEntry) → entries ≡ [] → AreMarksGathered lists 0 0 entries
  none_gathered entries is = subst (AreMarksGathered lists 0 0) (sym is) record {
    each = λ e has. absurd (omega (arith, has.1));
    all = λ u j lu lj b. ⊎_elim (λ (lt : u < 0). absurd (omega arith)) (λ (lt : (u ≡ 0) × (j < 0)). let l = lt.1 in absurd (omega (arith, l))) b;
    ordered = λ i e lt. absurd (omega arith);
  }

  -- A vertex is done at the place past its last mark.
  pub next_vertex : (v i : ℕ) (entries : List FrontEntry) → i ≡ length (row lists v) → AreMarksGathered lists v i entries → AreMarksGathered lists (v + 1) 0 entries
  next_vertex v i entries end are = record {
    each = λ e has. let k = are.each e has in (k.0, ⊎_elim (λ (lt : e.vertex < v). inl (omega arith)) (λ (lt : (e.vertex ≡ v) × (k.0.place < i)). let l = lt.0 in inl (omega (arith, l))) k.1);
    all = λ u j lu lj b. are.all u j lu lj (⊎_elim
        (λ (lt : u < v + 1). dite (dec_lt u v) (λ l. inl l)
        (λ nl. let e : u ≡ v = omega arith in let r : length (row lists u) ≡ length (row lists v) = ap (λ z. length (row lists z)) e in inr (e, omega (arith, r, lj, end))))
        (λ (lt : (u ≡ v + 1) × (j < 0)). let l = lt.1 in absurd (omega (arith, l))) b);
    ordered = are.ordered;
  }

  -- One more mark.
  pub gathered_more : (g : Digraph) (bound v i : ℕ) (entries new : List FrontEntry) → AreRows g bound lists → v < vertex_count g → i < length (row lists v) → AreMarksGathered lists v i entries
      → new ≡ entries ++ entry_of v (mark_at (row lists v) i) ∷ [] → AreMarksGathered lists v (i + 1) new
  gathered_more g bound v i entries new rows lv li are is =
      let x : FrontEntry = entry_of v (mark_at (row lists v) i) in
      let c = rows.count in
      subst (AreMarksGathered lists v (i + 1)) (sym is) record {
        each = λ e has. ⊎_elim
            (λ (old : Contains entries e). let k = are.each e old in (
              k.0,
              ⊎_elim (λ (l : e.vertex < v). inl l) (λ (l : (e.vertex ≡ v) ×
                  (k.0.place < i)). let l1 = l.1 in inr (l.0, omega (arith, l1))) k.1,
            ))
            (λ (same : x ≡ e). subst (λ z. (m : IsOfMark lists z) × IsMarkBefore v (i + 1) z.vertex m.place) same
            (record { place = i; vertex = omega (arith, c, lv); there = li; is = refl }, inr (refl, omega arith)))
            (Contains-push_cases entries x e has);
        all = λ u j lu lj b. ⊎_elim
            (λ (l : u < v). Contains-append_left entries (x ∷ []) (entry_of u (mark_at (row lists u) j)) (are.all u j lu lj (inl l)))
            (λ (l : (u ≡ v) × (j < i + 1)). dite (dec_lt j i)
            (λ early. Contains-append_left entries (x ∷ []) (entry_of u (mark_at (row lists u) j)) (are.all u j lu lj (inr (l.0, early))))
            (λ late.
            let l1 = l.1 in let at : j ≡ i = omega (arith, l1) in
            let same : x ≡ entry_of u (mark_at (row lists u) j) = ap (λ (q : ℕ × ℕ). entry_of q.0 (mark_at (row lists q.0) q.1)) (λ t. (sym l.0 t, sym at t)) in
            subst (Contains (entries ++ x ∷ [])) same (Contains-push entries x))) b;
        ordered = neighbours_more IsNextEntry entries x are.ordered (λ e has.
            let k = are.each e has in ⊎_elim
            (λ (l : e.vertex < v). inl l)
            (λ (l : (e.vertex ≡ v) × (k.0.place < i)).
            let r = rows.each v lv in
            let p : ℕ = k.0.place in
            let o = r.offsets p i l.1 li in let w = r.works p i l.1 li in
            let a : mark_at (row lists e.vertex) p ≡ mark_at (row lists v) p = ap (λ z. mark_at (row lists z) p) l.0 in
            let ao = ap (λ (z : Mark). z.offset) a in let aw = ap (λ (z : Mark). z.work) a in
            let eo : e.offset ≡ (mark_at (row lists e.vertex) p).offset = ap (λ (z : FrontEntry). z.offset) k.0.is in
            let ew : e.work ≡ (mark_at (row lists e.vertex) p).work = ap (λ (z : FrontEntry). z.work) k.0.is in
            inr (l.0, omega (arith, eo, ao, o), omega (arith, ew, aw, w))) k.1);
      }

  -- All are gathered.
  pub gathered_all : (v : ℕ) (entries : List FrontEntry) → v ≡ length lists → AreMarksGathered lists v 0 entries → AreMarkEntries lists entries
  gathered_all v entries end are = record {
    each = λ e has. (are.each e has).0;
    all = λ u j lu lj. are.all u j lu lj (inl (omega (arith, lu, end)));
    ordered = are.ordered;
  }
