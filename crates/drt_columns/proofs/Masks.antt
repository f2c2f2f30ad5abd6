-- Masks of a block's entries.
use Rattle.std.proofs.Common.{◌≡◌, ◌≢◌, ℕ, ◌<◌, ◌⊎◌, inl, inr, Some, List, [], length, get_or, sym, ap, ◌∙◌, arith}
use Rattle.std.specs.Prelude.{slice_get, slice_index}
use Rattle.std.proofs.lemmas.Bool.Decides.{nat_tests}
use Rattle.std.proofs.lemmas.Option.{same_Some, slice_get_within}
use Rattle.drt_columns.specs.Entries.{KeptLabel, IsRuledOut}
use Rattle.drt_columns.specs.Slots.{IsMask, first_entries, kept, samples_at}
use Rattle.drt_columns.proofs.Slots.{entries_many, entry_at, entry_is, sample_is}

kept_zero : (least sample before : ℕ) → kept least sample before ≡ 0 → (sample < least) ⊎ (before ≡ 0)
kept_zero least sample before h = grind (arith, nat_tests)

kept_used : (least sample before : ℕ) → kept least sample before ≢ 0 → before ≢ 0
kept_used least sample before h e = h (grind (arith, nat_tests))

module _ (numbers : List ℕ) (columns : List (List ℕ)) (count : ℕ) where
  -- which entry stands in a slot
  pub entry_found : (slot : ℕ) (e : KeptLabel) → slice_get (first_entries numbers columns count) slot ≡ Some e → entry_at numbers columns slot ≡ e
  entry_found slot e at =
      let lt : slot < length (first_entries numbers columns count) = slice_get_within (first_entries numbers columns count) slot e at in
      same_Some (entry_at numbers columns slot) e (sym (entry_is numbers columns count slot (omega (arith, entries_many numbers columns count))) ∙ at)

  -- a mask of the used slots rules nothing out
  pub mask_first : (samples mask : List ℕ) → ((slot : ℕ) → slice_index mask slot ≢ 0 → slot < count) → ((slot : ℕ) → slot < count → slice_index mask slot ≢ 0)
      → IsMask (first_entries numbers columns count) samples mask
  mask_first samples mask used all = record {
    below = λ slot e at none. absurd
        (all slot (let lt : slot < length (first_entries numbers columns count) =
        slice_get_within (first_entries numbers columns count) slot e at in omega (arith, entries_many numbers columns count)) none);
    used = λ slot u. (let lt : slot < count = used slot u in omega (arith, entries_many numbers columns count));
  }

  -- a sample of a slot is less, so that of the entry there is
  ruled : (samples : List ℕ) (k slot : ℕ) (e : KeptLabel) → slice_get (first_entries numbers columns count) slot ≡ Some e
      → slice_index (get_or columns k []) slot < slice_index samples k → IsRuledOut samples e
  ruled samples k slot e at less = (
    k,
    let is : slice_index (samples_at columns slot) k ≡ slice_index e.samples k = ap (λ (x : KeptLabel). slice_index x.samples k) (entry_found slot e at) in
        omega (arith, sample_is columns slot k),
  )

  -- a mask after one column more
  pub mask_next : (samples mask next : List ℕ) (k : ℕ) → IsMask (first_entries numbers columns count) samples mask
      → ((slot : ℕ) → slice_index next slot ≡ kept (slice_index samples k) (slice_index (get_or columns k []) slot) (slice_index mask slot)) → IsMask (first_entries numbers columns count) samples next
  mask_next samples mask next k h is = record {
    below = λ slot e at none. elim (kept_zero (slice_index samples k) (slice_index (get_or columns k []) slot) (slice_index mask slot) (sym (is slot) ∙ none)) as (λ _. IsRuledOut samples e) [
      | inl less ↦ ruled samples k slot e at less
      | inr before ↦ h.below slot e at before
    ];
    used = λ slot u. h.used slot (kept_used (slice_index samples k) (slice_index (get_or columns k []) slot) (slice_index mask slot) (λ e. u (is slot ∙ e)));
  }
