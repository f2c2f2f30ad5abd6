-- Looks at the entries of a vertex: where one begins, what it passes, and where it stops.
use Rattle.std.proofs.Common.{◌≡◌, ◌≢◌, ℕ, zero, suc, ◌+◌, ◌<◌, ◌≤◌, Some, List, [], ◌∷◌, ◌++◌, length, drop, refl, sym, ap, ◌∙◌, arith, add-one, append_assoc}
use Rattle.std.specs.Prelude.{slice_get, slice_index}
use Rattle.std.proofs.lemmas.Option.{none-some, same_Some, slice_get_within}
use Rattle.drt_columns.specs.Entries.{KeptLabel, AreRuledOut, IsRuledOut}
use Rattle.drt_columns.specs.Shelf.{Shelf, entries_in}
use Rattle.drt_columns.specs.Seeking.{IsFoundLabelAt, IsSeek, IsSeeking, entries_here, remaining}
use Rattle.drt_columns.specs.Slots.{IsMask}
use Rattle.drt_columns.specs.declared.seek.Seek.{Seek}
use Rattle.drt_columns.proofs.Shelves.{here_at, here_past, in_at, in_past, skip_from}

-- A look begins at the next block of its vertex, or past the last block.
module _ (shelf : Shelf) (seek : Seek) (from : ℕ) (le : from ≤ seek.block) (others : (k : ℕ) → from ≤ k → k < seek.block → slice_get shelf.owners k ≢ Some seek.vertex) where
  abbrev pub Begins : Type 0
  Begins = IsSeek shelf seek seek.samples (entries_in seek.vertex (drop from shelf.owners) (drop from shelf.blocks))

  pub begins_at : (block : List KeptLabel) → slice_get shelf.owners seek.block ≡ Some seek.vertex → slice_get shelf.blocks seek.block ≡ Some block → seek.slot ≡ 0
      → IsMask block seek.samples seek.possible → Begins
  begins_at block owned at first mask = record {
    seeking = record { masked = λ other there. rw (same_Some other block (sym there ∙ at)) mask };
    samples_is = refl;
    rest_is =
        let here : entries_here (drop seek.block shelf.blocks) seek.slot ≡ block = here_at seek.block seek.slot block shelf.blocks at ∙ ap (λ n. drop n block) first in
        let rest : entries_in seek.vertex (drop seek.block shelf.owners) (drop seek.block shelf.blocks)
        ≡ block ++ entries_in seek.vertex (drop (suc seek.block) shelf.owners) (drop (suc seek.block) shelf.blocks) = in_at seek.vertex seek.block shelf.owners block shelf.blocks owned at in
        let skips : entries_in seek.vertex (drop from shelf.owners) (drop from shelf.blocks) ≡ entries_in seek.vertex (drop seek.block shelf.owners) (drop seek.block shelf.blocks) =
        skip_from seek.vertex from seek.block shelf.owners shelf.blocks le others in
        rw add-one cc;
  }

  pub begins_past : length shelf.owners ≤ seek.block → length shelf.blocks ≤ seek.block → Begins
  begins_past past none = record {
    seeking = record { masked = λ other there. absurd (let lt : seek.block < length shelf.blocks = slice_get_within shelf.blocks seek.block other there in omega arith) };
    samples_is = refl;
    rest_is =
        let here : entries_here (drop seek.block shelf.blocks) seek.slot ≡ [] = here_past seek.block seek.slot shelf.blocks none in
        let after : entries_in seek.vertex (drop (seek.block + 1) shelf.owners) (drop (seek.block + 1) shelf.blocks) ≡ [] =
        in_past seek.vertex (seek.block + 1) shelf.owners shelf.blocks (omega arith) in
        let rest : entries_in seek.vertex (drop seek.block shelf.owners) (drop seek.block shelf.blocks) ≡ [] = in_past seek.vertex seek.block shelf.owners shelf.blocks past in
        let skips : entries_in seek.vertex (drop from shelf.owners) (drop from shelf.blocks) ≡ entries_in seek.vertex (drop seek.block shelf.owners) (drop seek.block shelf.blocks) =
        skip_from seek.vertex from seek.block shelf.owners shelf.blocks le others in
        ap (λ xs. xs ++ entries_in seek.vertex (drop (seek.block + 1) shelf.owners) (drop (seek.block + 1) shelf.blocks)) here ∙ (after ∙ sym (skips ∙ rest));
  }

-- entries with a sample that is less
module _ (samples : List ℕ) where
  pub below_more : (x : KeptLabel) (xs : List KeptLabel) → IsRuledOut samples x → AreRuledOut samples xs → AreRuledOut samples (x ∷ xs)
  below_more x xs here rest zero e at = rw (sym (same_Some x e at)) here
  below_more x xs here rest (suc i) e at = rest i e at

  pub below_append : (xs ys : List KeptLabel) → AreRuledOut samples xs → AreRuledOut samples ys → AreRuledOut samples (xs ++ ys)
  below_append [] ys left right = right
  below_append (x ∷ xs) ys left right = below_more x (xs ++ ys) (left zero x refl) (below_append xs ys (λ i e at. left (suc i) e at) right)

  pub below_from : (slot : ℕ) (block : List KeptLabel) → ((k : ℕ) (e : KeptLabel) → slot ≤ k → slice_get block k ≡ Some e → IsRuledOut samples e) → AreRuledOut samples (drop slot block)
  below_from zero block all = λ i e at. all i e (omega arith) at
  below_from (suc slot) [] all = λ i e at. absurd (none-some e at)
  below_from (suc slot) (x ∷ block) all = below_from slot block (λ k e le at. all (suc k) e (omega arith) at)

  -- the entries of a block between two slots, with an entry at the second one
  pub record IsSplit (block : List KeptLabel) (from slot : ℕ) (e : KeptLabel) : Type 0 where
    pub part : List KeptLabel
    pub is : drop from block ≡ part ++ e ∷ drop (suc slot) block
    pub below : AreRuledOut samples part

  pub split : (block : List KeptLabel) (from slot : ℕ) (e : KeptLabel) → from ≤ slot → slice_get block slot ≡ Some e
      → ((k : ℕ) (x : KeptLabel) → from ≤ k → k < slot → slice_get block k ≡ Some x → IsRuledOut samples x) → IsSplit block from slot e
  split [] from slot e le at all = absurd (none-some e at)
  split (x ∷ block) zero zero e le at all = record { part = []; is = ap (λ y. y ∷ block) (same_Some x e at); below = λ i y none. absurd (none-some y none) }
  split (x ∷ block) zero (suc slot) e le at all =
      let r : IsSplit block zero slot e = split block zero slot e (omega arith) at (λ k y low lt there. all (suc k) y (omega arith) (omega arith) there) in
      record { part = x ∷ r.part; is = ap (λ ys. x ∷ ys) r.is; below = below_more x r.part (all zero x (omega arith) (omega arith) refl) r.below }
  split (x ∷ block) (suc from) zero e le at all = absurd (omega arith)
  split (x ∷ block) (suc from) (suc slot) e le at all =
      let r : IsSplit block from slot e = split block from slot e (omega arith) at (λ k y low lt there. all (suc k) y (omega arith) (omega arith) there) in
      record { part = r.part; is = r.is; below = r.below }

-- What a look has passed since it began.
pub record HasPassed (shelf : Shelf) (initial seek : Seek) : Type 0 where
  pub seeking : IsSeeking shelf seek
  pub samples_is : seek.samples ≡ initial.samples
  pub passed : List KeptLabel
  pub rest_is : remaining shelf initial ≡ passed ++ remaining shelf seek
  pub below : AreRuledOut initial.samples passed

pub passed_none : (shelf : Shelf) (seek : Seek) → IsSeeking shelf seek → HasPassed shelf seek seek
passed_none shelf seek h = record { seeking = h; samples_is = refl; passed = []; rest_is = refl; below = λ i e at. absurd (none-some e at) }

module _ (shelf : Shelf) (initial seek : Seek) (h : HasPassed shelf initial seek) where
  -- a look at its end
  pub passed_all : length shelf.owners ≤ seek.block → length shelf.blocks ≤ seek.block → AreRuledOut initial.samples (remaining shelf initial)
  passed_all past none =
      let here : entries_here (drop seek.block shelf.blocks) seek.slot ≡ [] = here_past seek.block seek.slot shelf.blocks none in
      let after : entries_in seek.vertex (drop (seek.block + 1) shelf.owners) (drop (seek.block + 1) shelf.blocks) ≡ [] =
      in_past seek.vertex (seek.block + 1) shelf.owners shelf.blocks (omega arith) in
      let left : remaining shelf seek ≡ [] = ap (λ xs. xs ++ entries_in seek.vertex (drop (seek.block + 1) shelf.owners) (drop (seek.block + 1) shelf.blocks)) here ∙ after in
      rw (h.rest_is, left) (below_append initial.samples h.passed [] h.below (λ i e at. absurd (none-some e at)))

  module _ (block : List KeptLabel) (at : slice_get shelf.blocks seek.block ≡ Some block) where
    -- what comes after the block that the look is at
    abbrev pub later : List KeptLabel
    later = entries_in seek.vertex (drop (seek.block + 1) shelf.owners) (drop (seek.block + 1) shelf.blocks)

    ruled_out : (k : ℕ) (e : KeptLabel) → slice_index seek.possible k ≡ 0 → slice_get block k ≡ Some e → IsRuledOut initial.samples e
    ruled_out k e none there = rw (← h.samples_is) ((h.seeking.masked block at).below k e there none)

    left_is : remaining shelf seek ≡ drop seek.slot block ++ later
    left_is = ap (λ xs. xs ++ later) (here_at seek.block seek.slot block shelf.blocks at)

    -- no entry of the block is left, and the look goes on at a later one
    pub passed_block : (next : Seek) → ((k : ℕ) → seek.slot ≤ k → slice_index seek.possible k ≡ 0) → IsSeek shelf next seek.samples later → HasPassed shelf initial next
    passed_block next zeros goes = record {
      seeking = goes.seeking;
      samples_is = goes.samples_is ∙ h.samples_is;
      passed = h.passed ++ drop seek.slot block;
      rest_is = h.rest_is ∙
          (ap (λ xs. h.passed ++ xs) (left_is ∙ ap (λ xs. drop seek.slot block ++ xs) (sym goes.rest_is)) ∙ sym (append_assoc h.passed (drop seek.slot block) (remaining shelf next)));
      below = below_append initial.samples h.passed (drop seek.slot block) h.below (below_from initial.samples seek.slot block (λ k e le there. ruled_out k e (zeros k le) there));
    }

    -- an entry of the block is left, and the look stops there
    pub stops : (slot : ℕ) (e : KeptLabel) → seek.slot ≤ slot → slice_get block slot ≡ Some e → ((k : ℕ) → seek.slot ≤ k → k < slot → slice_index seek.possible k ≡ 0)
        → IsFoundLabelAt shelf (record seek { slot = slot + 1 }) initial.samples (remaining shelf initial) e.number
    stops slot e le there zeros =
        let r : IsSplit initial.samples block seek.slot slot e = split initial.samples block seek.slot slot e le there (λ k x low lt here. ruled_out k x (zeros k low lt) here) in
        record {
          passed = h.passed ++ r.part;
          entry = e;
          after = drop (slot + 1) block ++ later;
          rest_is =
              h.rest_is
              ∙ (ap (λ xs. h.passed ++ xs) (left_is ∙ (ap (λ xs. xs ++ later) r.is ∙ append_assoc r.part (e ∷ drop (suc slot) block) later))
              ∙ (sym (append_assoc h.passed r.part (e ∷ drop (suc slot) block ++ later))
              ∙ ap (λ n. (h.passed ++ r.part) ++ e ∷ (drop n block ++ later)) (sym (add-one slot))));
          below = below_append initial.samples h.passed r.part h.below r.below;
          number_is = refl;
          seek_is = record {
            seeking = record { masked = h.seeking.masked };
            samples_is = h.samples_is;
            rest_is = ap (λ xs. xs ++ later) (here_at seek.block (slot + 1) block shelf.blocks at);
          };
        }
