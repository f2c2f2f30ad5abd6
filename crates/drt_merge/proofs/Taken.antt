-- What the cursors have passed stays covered.
use Rattle.std.proofs.Common.{◌≡◌, ◌⊎◌, ℕ, ◌+◌, ◌<◌, ◌≤◌, List, length, sym, ap, ◌∙◌, subst, inl, inr, arith}
use Rattle.std.specs.Prelude.{slice_index, slice_set, None}
use Rattle.std.proofs.lemmas.List.{get_or-set_same, get_or-set_other, length-set, get_or_default}
use mathlib.Core.Logic.{dite}
use native.Mathlib.Decide.{ℕ_discrete, dec_lt}
use Rattle.drt_model.specs.Digraph.{Digraph, vertex_count, out_degree}
use Rattle.drt_merge.specs.declared.mark.Mark.{Mark}
use Rattle.drt_merge.specs.declared.arcs.Arc.{Arc}
use Rattle.drt_merge.specs.Arcs.{no_arc, arc_at, arc_of, AreArcs, extended}
use Rattle.drt_merge.specs.Marks.{row, mark_at, IsCovered, IsMarkRow, AreRows, AreMarksGrown}
use Rattle.drt_merge.specs.Merging.{AreTaken, IsMerging, IsCandidate, AreCoveredFrom, AreSpentTo, AreMerged}
use Rattle.drt_merge.proofs.Rows.{covered_grown, opened_grown}

-- Lists that have grown.
pub taken_grown : (arcs : List Arc) (old new : List (List Mark)) (cursors : List ℕ) → AreMarksGrown old new → AreTaken arcs old cursors → AreTaken arcs new cursors
taken_grown arcs old new cursors grown are = record {
  count = are.count;
  within = λ k l. let w = are.within k l in let more = grown.longer (arc_at arcs k).source in omega (arith, w, more);
  covered = λ k i l before.
      let a = arc_at arcs k in
      let w = are.within k l in
      let e : mark_at (row new a.source) i ≡ mark_at (row old a.source) i = grown.same a.source i (omega (arith, w, before)) in
      subst (λ z. IsCovered (row new a.target) (extended a z)) (sym e) (covered_grown old new a.target (extended a (mark_at (row old a.source) i)) grown (are.covered k i l before));
}

-- A cursor that passes over what is covered.
pub taken_more : (arcs : List Arc) (lists : List (List Mark)) (cursors : List ℕ) (k to : ℕ) → AreTaken arcs lists cursors → k < length arcs → to ≤ length (row lists (arc_at arcs k).source)
    → AreCoveredFrom lists (arc_at arcs k) (slice_index cursors k) to → AreTaken arcs lists (slice_set cursors k to)
taken_more arcs lists cursors k to are lk le covered =
    let c = are.count in
    let here : slice_index (slice_set cursors k to) k ≡ to = get_or-set_same cursors k to 0 (omega (arith, c, lk)) in
    record {
      count = length-set cursors k to ∙ are.count;
      within = λ j l. dite (ℕ_discrete j k)
          (λ (e : j ≡ k). subst (λ z. slice_index (slice_set cursors k to) z ≤ length (row lists (arc_at arcs z).source)) (sym e) (omega (arith, here, le)))
          (λ ne. let s = get_or-set_other cursors k j to 0 ne in let w = are.within j l in omega (arith, s, w));
      covered = λ j i l before. dite (ℕ_discrete j k)
          (λ (e : j ≡ k).
          let b : i < slice_index (slice_set cursors k to) k = subst (λ z. i < slice_index (slice_set cursors k to) z) e before in
          subst (λ z. IsCovered (row lists (arc_at arcs z).target) (extended (arc_at arcs z) (mark_at (row lists (arc_at arcs z).source) i))) (sym e)
          (dite (dec_lt i (slice_index cursors k))
          (λ early. are.covered k i lk early)
          (λ late. covered i (omega arith) (omega (arith, b, here)))))
          (λ ne. let s = get_or-set_other cursors k j to 0 ne in are.covered j i l (omega (arith, s, before)));
    }

-- Merging goes on.
pub merging_grown : (g : Digraph) (bound : ℕ) (arcs : List Arc) (old new : List (List Mark)) (cursors : List ℕ) → AreRows g bound new → AreMarksGrown old new
    → IsMerging g bound arcs old cursors → IsMerging g bound arcs new cursors
merging_grown g bound arcs old new cursors rows grown is = record
    { rows = rows; opened = opened_grown g bound (vertex_count g) old new grown is.opened; taken = taken_grown arcs old new cursors grown is.taken }

pub merging_more : (g : Digraph) (bound : ℕ) (arcs : List Arc) (lists : List (List Mark)) (cursors : List ℕ) (k to : ℕ) → IsMerging g bound arcs lists cursors → k < length arcs
    → to ≤ length (row lists (arc_at arcs k).source) → AreCoveredFrom lists (arc_at arcs k) (slice_index cursors k) to → IsMerging g bound arcs lists (slice_set cursors k to)
merging_more g bound arcs lists cursors k to is lk le covered = record { rows = is.rows; opened = is.opened; taken = taken_more arcs lists cursors k to is.taken lk le covered }

-- Where no arc has a candidate, the lists are merged.
pub merged_of : (g : Digraph) (bound : ℕ) (arcs : List Arc) (lists : List (List Mark)) (cursors : List ℕ) → AreArcs g arcs → IsMerging g bound arcs lists cursors
    → AreSpentTo bound arcs lists cursors (length arcs)
    → AreMerged g bound lists
merged_of g bound arcs lists cursors are is spent = record { rows = is.rows; opened = is.opened; closed = closed }
  where
    closed : (v i j : ℕ) → v < vertex_count g → i < length (row lists v) → j < out_degree g v
        → (bound < (mark_at (row lists v) i).offset + (arc_of g v j).sep + (arc_of g v j).deadline)
        ⊎ IsCovered (row lists (arc_of g v j).target) (extended (arc_of g v j) (mark_at (row lists v) i))
    closed v i j lv li lj =
        let has = are.all v j lv lj in
        let k : ℕ = has.0 in
        let e : arc_at arcs k ≡ arc_of g v j = get_or_default arcs k no_arc (arc_of g v j) has.1 ∙ has.2 in
        let r = is.rows.each v lv in
        subst (λ a. (bound < (mark_at (row lists v) i).offset + a.sep + a.deadline) ⊎ IsCovered (row lists a.target) (extended a (mark_at (row lists v) i))) e
        (dite (dec_lt i (slice_index cursors k))
        (λ early. inr (subst (λ z. IsCovered (row lists (arc_at arcs k).target) (extended (arc_at arcs k) (mark_at (row lists z) i))) (ap (λ a. a.source) e) (is.taken.covered k i has.1 early)))
        (λ late. inl (past k e r late (spent k has.1))))
      where
        past : (k : ℕ) → arc_at arcs k ≡ arc_of g v j → IsMarkRow g bound v (row lists v) → (i < slice_index cursors k → ⊥) → IsCandidate bound lists (arc_at arcs k) (slice_index cursors k) None
            → bound < (mark_at (row lists v) i).offset + (arc_at arcs k).sep + (arc_at arcs k).deadline
        past k e r late (inl le) =
            let s : length (row lists (arc_at arcs k).source) ≡ length (row lists v) = ap (λ a. length (row lists a.source)) e in absurd (late (omega (arith, le, s, li)))
        past k e r late (inr far) =
            let s : (mark_at (row lists (arc_at arcs k).source) (slice_index cursors k)).offset ≡ (mark_at (row lists v) (slice_index cursors k)).offset = ap
            (λ a. (mark_at (row lists a.source) (slice_index cursors k)).offset) e in
            dite (dec_lt (slice_index cursors k) i)
            (λ l. let o = r.offsets (slice_index cursors k) i l li in omega (arith, far, s, o))
            (λ nl. let same : slice_index cursors k ≡ i = omega (arith, late) in
            let o : (mark_at (row lists v) (slice_index cursors k)).offset ≡ (mark_at (row lists v) i).offset = ap (λ z. (mark_at (row lists v) z).offset) same in omega (arith, far, s, o))

-- The candidate of an arc is covered once it is offered: the arc's cursor passes it.
pub step_more : (g : Digraph) (bound : ℕ) (arcs : List Arc) (old new : List (List Mark)) (cursors : List ℕ) (k place : ℕ) (m : Mark) → AreRows g bound new
    → AreMarksGrown old new → IsMerging g bound arcs old cursors
    → k < length arcs → slice_index cursors k ≡ place → place < length (row old (arc_at arcs k).source) → m ≡ extended (arc_at arcs k) (mark_at (row old (arc_at arcs k).source) place)
    → IsCovered (row new (arc_at arcs k).target) m → IsMerging g bound arcs new (slice_set cursors k (place + 1))
step_more g bound arcs old new cursors k place m rows grown is lk at lp same covered =
    let a = arc_at arcs k in
    let more = grown.longer a.source in
    let there : extended a (mark_at (row new a.source) place) ≡ m = ap (extended a) (grown.same a.source place lp) ∙ sym same in
    merging_more g bound arcs new cursors k (place + 1) (merging_grown g bound arcs old new cursors rows grown is) lk (omega (arith, more, lp))
    (λ i from to. let e : i ≡ place = omega (arith, from, to, at) in
    subst (λ z. IsCovered (row new a.target) (extended a (mark_at (row new a.source) z))) (sym e) (subst (IsCovered (row new a.target)) (sym there) covered))
