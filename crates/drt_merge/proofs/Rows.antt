-- Marks that are added to the lists.
use Rattle.std.proofs.Common.{◌≡◌, ◌≢◌, ℕ, ◌+◌, ◌<◌, List, [], ◌∷◌, ◌++◌, length, length-append, refl, sym, ap, ◌∙◌, subst, arith}
use Rattle.std.specs.Prelude.{slice_set, Some}
use Rattle.std.proofs.lemmas.List.{get_or-set_same, get_or-set_other, get_or_append_left, get_or_push, length-set}
use mathlib.Core.Logic.{dite}
use native.Mathlib.Decide.{ℕ_discrete, dec_lt}
use Rattle.drt_model.specs.Digraph.{Digraph, vertex_count}
use Rattle.drt_wave.specs.Fronts.{IsWalkEntry}
use Rattle.drt_merge.specs.declared.mark.Mark.{Mark}
use Rattle.drt_merge.specs.Marks.{no_mark, row, mark_at, IsLastMark, IsMarkOver, IsCovered, IsSmallMark, entry_of, IsMarkRow, AreRows, AreMarksGrown, AreOpenedTo, opening_mark}
use Rattle.drt_merge.specs.Offers.{IsMarkBelow}

-- The row that is set, and the others.
pub row_set : (lists : List (List Mark)) (v : ℕ) (r : List Mark) → v < length lists → row (slice_set lists v r) v ≡ r
row_set lists v r lt = get_or-set_same lists v r [] lt

pub row_kept : (lists : List (List Mark)) (v u : ℕ) (r : List Mark) → u ≢ v → row (slice_set lists v r) u ≡ row lists u
row_kept lists v u r ne = get_or-set_other lists v u r [] ne

-- The marks before a new one, and the new one.
pub mark_kept : (marks : List Mark) (m : Mark) (i : ℕ) → i < length marks → mark_at (marks ++ m ∷ []) i ≡ mark_at marks i
mark_kept marks m i lt = get_or_append_left marks (m ∷ []) no_mark i lt

pub mark_new : (marks : List Mark) (m : Mark) (i : ℕ) → length marks ≡ i → mark_at (marks ++ m ∷ []) i ≡ m
mark_new marks m i e = get_or_push marks m no_mark i e

-- What holds of each mark and of a new one holds of each.
each_more : (P : Mark → Type 0) (marks : List Mark) (m : Mark) → ((i : ℕ) → i < length marks → P (mark_at marks i)) → P m → (i : ℕ) → i < length (marks ++ m ∷ []) → P (mark_at (marks ++ m ∷ []) i)
each_more P marks m all here i lt = dite (dec_lt i (length marks))
    (λ l. subst P (sym (mark_kept marks m i l)) (all i l))
    (λ nl. let n = length-append marks (m ∷ []) in let e : length marks ≡ i = omega (arith, n, lt) in subst P (sym (mark_new marks m i e)) here)

-- Rising numbers still rise.
rises_more : (f : Mark → ℕ) (marks : List Mark) (m : Mark) → ((i j : ℕ) → i < j → j < length marks → f (mark_at marks i) < f (mark_at marks j))
    → ((i : ℕ) → i < length marks → f (mark_at marks i) < f m)
    → (i j : ℕ) → i < j → j < length (marks ++ m ∷ []) → f (mark_at (marks ++ m ∷ []) i) < f (mark_at (marks ++ m ∷ []) j)
rises_more f marks m rise below i j lt within =
    let n = length-append marks (m ∷ []) in
    let li : i < length marks = omega (arith, n, lt, within) in
    let ei = ap f (mark_kept marks m i li) in
    dite (dec_lt j (length marks))
    (λ l. let ej = ap f (mark_kept marks m j l) in let r = rise i j lt l in omega (arith, ei, ej, r))
    (λ nl. let e : length marks ≡ j = omega (arith, n, within) in let ej = ap f (mark_new marks m j e) in let r = below i li in omega (arith, ei, ej, r))

-- A row with one more mark.
pub row_more : (g : Digraph) (bound v : ℕ) (marks : List Mark) (m : Mark) → IsMarkRow g bound v marks → IsWalkEntry g bound (entry_of v m) → IsSmallMark m
    → ((i : ℕ) → i < length marks → IsMarkBelow (mark_at marks i) m)
    → IsMarkRow g bound v (marks ++ m ∷ [])
row_more g bound v marks m is walk small below = record {
  walks = each_more (λ x. IsWalkEntry g bound (entry_of v x)) marks m is.walks walk;
  small = each_more IsSmallMark marks m is.small small;
  offsets = rises_more (λ x. x.offset) marks m is.offsets (λ i l. (below i l).0);
  works = rises_more (λ x. x.work) marks m is.works (λ i l. (below i l).1);
}

-- Rows of which one is set.
pub rows_set : (g : Digraph) (bound v : ℕ) (lists : List (List Mark)) (r : List Mark) → AreRows g bound lists → v < vertex_count g → IsMarkRow g bound v r → AreRows g bound (slice_set lists v r)
rows_set g bound v lists r are lt is = record {
  count = length-set lists v r ∙ are.count;
  each = λ u l. dite (ℕ_discrete u v)
      (λ (e : u ≡ v).
      let c = are.count in let here : row (slice_set lists v r) u ≡ r = ap (λ z. row (slice_set lists v r) z) e ∙ row_set lists v r (omega (arith, lt, c)) in
      subst (IsMarkRow g bound u) (sym here) (subst (λ z. IsMarkRow g bound z r) (sym e) is))
      (λ ne. subst (IsMarkRow g bound u) (sym (row_kept lists v u r ne)) (are.each u l));
}

-- Each mark is still there.
pub grown_set : (lists : List (List Mark)) (v : ℕ) (m : Mark) → v < length lists → AreMarksGrown lists (slice_set lists v (row lists v ++ m ∷ []))
grown_set lists v m lt =
    let r = row lists v ++ m ∷ [] in
    let here = row_set lists v r lt in
    record {
      count = length-set lists v r;
      longer = λ u. dite (ℕ_discrete u v)
          (λ (e : u ≡ v).
          let a : length (row lists u) ≡ length (row lists v) = ap (λ z. length (row lists z)) e in
          let b : length (row (slice_set lists v r) u) ≡ length r = ap (λ z. length (row (slice_set lists v r) z)) e ∙ ap length here in
          let n = length-append (row lists v) (m ∷ []) in omega (arith, a, b, n))
          (λ ne. let e = ap length (row_kept lists v u r ne) in omega (arith, e));
      same = λ u i l. dite (ℕ_discrete u v)
          (λ (e : u ≡ v).
          let there : row (slice_set lists v r) u ≡ row lists u ++ m ∷ [] = ap (λ z. row (slice_set lists v r) z) e ∙ here ∙ ap (λ z. row lists z ++ m ∷ []) (sym e) in
          ap (λ z. mark_at z i) there ∙ mark_kept (row lists u) m i l)
          (λ ne. ap (λ z. mark_at z i) (row_kept lists v u r ne));
    }

pub grown_none : (lists : List (List Mark)) → AreMarksGrown lists lists
grown_none lists = record { count = refl; longer = λ v. omega arith; same = λ v i l. refl }

-- The new mark covers itself.
pub covers_new : (marks : List Mark) (m : Mark) → IsCovered (marks ++ m ∷ []) m
covers_new marks m =
    let n = length-append marks (m ∷ []) in
    let e = mark_new marks m (length marks) refl in
    let o = ap (λ x. x.offset) e in let w = ap (λ x. x.work) e in
    record { place = length marks; there = omega (arith, n); over = (omega (arith, o), omega (arith, w)) }

-- The last mark is above each.
pub last_most : (g : Digraph) (bound v : ℕ) (marks : List Mark) (l m : Mark) → IsMarkRow g bound v marks → IsLastMark marks (Some l) → l.offset < m.offset
    → l.work < m.work → (i : ℕ) → i < length marks → IsMarkBelow (mark_at marks i) m
last_most g bound v marks l m is last lo lw i lt =
    let n = last.1 in
    let o : l.offset ≡ (mark_at marks last.0).offset = ap (λ x. x.offset) last.2 in
    let w : l.work ≡ (mark_at marks last.0).work = ap (λ x. x.work) last.2 in
    dite (dec_lt i last.0)
    (λ less.
    let a = is.offsets i last.0 less (omega (arith, n)) in let b = is.works i last.0 less (omega (arith, n)) in
    (omega (arith, a, o, lo), omega (arith, b, w, lw)))
    (λ nless.
    let e : i ≡ last.0 = omega (arith, n, lt) in
    let a : (mark_at marks i).offset ≡ (mark_at marks last.0).offset = ap (λ z. (mark_at marks z).offset) e in
    let b : (mark_at marks i).work ≡ (mark_at marks last.0).work = ap (λ z. (mark_at marks z).work) e in
    (omega (arith, a, o, lo), omega (arith, b, w, lw)))

-- What the last mark covers is covered.
pub last_covers : (marks : List Mark) (l m : Mark) → IsLastMark marks (Some l) → IsMarkOver l m → IsCovered marks m
last_covers marks l m last over =
    let n = last.1 in
    let o : l.offset ≡ (mark_at marks last.0).offset = ap (λ x. x.offset) last.2 in
    let w : l.work ≡ (mark_at marks last.0).work = ap (λ x. x.work) last.2 in
    let a = over.0 in let b = over.1 in
    record { place = last.0; there = omega (arith, n); over = (omega (arith, o, a), omega (arith, w, b)) }

-- What is covered stays covered.
pub covered_grown : (old new : List (List Mark)) (v : ℕ) (m : Mark) → AreMarksGrown old new → IsCovered (row old v) m → IsCovered (row new v) m
covered_grown old new v m grown is =
    let e = grown.same v is.place is.there in
    let more = grown.longer v in let there = is.there in
    let o = ap (λ x. x.offset) e in let w = ap (λ x. x.work) e in
    let a = is.over.0 in let b = is.over.1 in
    record { place = is.place; there = omega (arith, more, there); over = (omega (arith, o, a), omega (arith, w, b)) }

pub opened_grown : (g : Digraph) (bound n : ℕ) (old new : List (List Mark)) → AreMarksGrown old new → AreOpenedTo g bound n old → AreOpenedTo g bound n new
opened_grown g bound n old new grown opened v lt due = covered_grown old new v (opening_mark g v) grown (opened v lt due)

-- One more vertex.
pub opened_more : (g : Digraph) (bound n : ℕ) (lists : List (List Mark)) → AreOpenedTo g bound n lists → IsCovered (row lists n) (opening_mark g n) → AreOpenedTo g bound (n + 1) lists
opened_more g bound n lists opened here v lt due = dite (dec_lt v n)
    (λ l. opened v l due)
    (λ nl. let e : v ≡ n = omega (arith, lt) in subst (λ z. IsCovered (row lists z) (opening_mark g z)) (sym e) here)
