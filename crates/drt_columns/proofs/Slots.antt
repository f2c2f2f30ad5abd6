-- Writes into columns, and the entries in the first slots.
use Rattle.std.proofs.Common.{◌≡◌, ◌≢◌, ℕ, zero, suc, ◌+◌, ◌<◌, ◌⊎◌, inl, inr, Some, List, [], ◌∷◌, ◌++◌, length, get_or, replicate, set, refl, sym, ap, ◌∙◌, arith, below_more, length-append}
use Rattle.std.specs.Prelude.{slice_get, slice_index}
use Rattle.std.proofs.Math.Seq.{map-set_same}
use Rattle.std.proofs.lemmas.List.{get_or-set_same, get_or-set_other}
use Rattle.std.proofs.lemmas.Option.{none-some, same_Some, slice_get-get_or}
use Rattle.drt_worklist.proofs.Writes.{set_at, length_set}
use Rattle.drt_columns.proofs.Ends.{before_at, last_at}
use Rattle.drt_columns.specs.Entries.{KeptLabel}
use Rattle.drt_columns.specs.Slots.{AreColumns, first_entries, samples_at}

-- zeros are zeros, and past the end too
pub zeros : (n k : ℕ) → slice_index (replicate n 0) k ≡ 0
zeros zero k = refl
zeros (suc n) zero = refl
zeros (suc n) (suc k) = zeros n k

pub samples_many : (columns : List (List ℕ)) (slot : ℕ) → length (samples_at columns slot) ≡ length columns
samples_many [] slot = refl
samples_many (column ∷ columns) slot = ap suc (samples_many columns slot)

-- the sample that stands in a column
pub sample_is : (columns : List (List ℕ)) (slot k : ℕ) → slice_index (samples_at columns slot) k ≡ slice_index (get_or columns k []) slot
sample_is [] slot k = refl
sample_is (column ∷ columns) slot zero = refl
sample_is (column ∷ columns) slot (suc k) = sample_is columns slot k

-- a write into one column
module _ (slot sample : ℕ) where
  pub write_here : (columns : List (List ℕ)) (k : ℕ) → k < length columns → slot < length (get_or columns k [])
      → samples_at (set columns k (set (get_or columns k []) slot sample)) slot ≡ set (samples_at columns slot) k sample
  write_here [] k lt fits = absurd (omega arith)
  write_here (column ∷ columns) zero lt fits = ap (λ n. n ∷ samples_at columns slot) (get_or-set_same column slot sample 0 fits)
  write_here (column ∷ columns) (suc k) lt fits = ap (λ ns. slice_index column slot ∷ ns) (write_here columns k (omega arith) fits)

  pub write_other : (columns : List (List ℕ)) (k other : ℕ) → other ≢ slot → samples_at (set columns k (set (get_or columns k []) slot sample)) other ≡ samples_at columns other
  write_other columns k other ne =
      map-set_same (λ column. slice_index column other) columns k (set (get_or columns k []) slot sample) [] (get_or-set_other (get_or columns k []) slot other sample 0 ne)

-- a column of columns
pub column_long : (columns : List (List ℕ)) (k : ℕ) → k < 16 → AreColumns columns → length (get_or columns k []) ≡ 64
column_long columns k lt are = are.long k (get_or columns k []) (slice_get-get_or columns k [] (let h : length columns ≡ 16 = are.many in omega arith))

pub write_columns : (columns : List (List ℕ)) (k slot sample : ℕ) → k < 16 → AreColumns columns → AreColumns (set columns k (set (get_or columns k []) slot sample))
write_columns columns k slot sample lt are = record {
  many = length_set columns k (set (get_or columns k []) slot sample) ∙ are.many;
  long = λ j column at. elim (set_at columns k (set (get_or columns k []) slot sample) j column at) as (λ _. length column ≡ 64) [
    | inl h ↦ ap length h.1 ∙ (length_set (get_or columns k []) slot sample ∙ column_long columns k lt are)
    | inr h ↦ are.long j column h.1
  ];
}

-- one number more is written
pub written_more : (written samples : List ℕ) (k : ℕ) → k < length written → ((j : ℕ) → j < k → slice_index written j ≡ slice_index samples j) → (j : ℕ) → j < k + 1
    → slice_index (set written k (slice_index samples k)) j ≡ slice_index samples j
written_more written samples k lt before =
    below_more _ _
    (λ j less. let ne : j ≢ k = omega arith in get_or-set_other written k j (slice_index samples k) 0 ne ∙ before j less)
    (get_or-set_same written k (slice_index samples k) 0 lt)

-- the entry in a slot
abbrev pub entry_at : List ℕ → List (List ℕ) → ℕ → KeptLabel
entry_at numbers columns slot = record { number = slice_index numbers slot; samples = samples_at columns slot }

module _ (numbers : List ℕ) (columns : List (List ℕ)) where
  pub entries_many : (count : ℕ) → length (first_entries numbers columns count) ≡ count
  entries_many zero = refl
  entries_many (suc count) = length-append (first_entries numbers columns count) (entry_at numbers columns count ∷ [])
      ∙ (let h : length (first_entries numbers columns count) ≡ count = entries_many count in omega arith)

  below_or_last : (i count : ℕ) → i < suc count → (i < count) ⊎ (i ≡ count)
  below_or_last i count lt = grind arith

  pub entry_is : (count i : ℕ) → i < count → slice_get (first_entries numbers columns count) i ≡ Some (entry_at numbers columns i)
  entry_is zero i lt = absurd (omega arith)
  entry_is (suc count) i lt = elim (below_or_last i count lt) as (λ _. slice_get (first_entries numbers columns (suc count)) i ≡ Some (entry_at numbers columns i)) [
    | inl less ↦ before_at (first_entries numbers columns count) (entry_at numbers columns count) i
        (let h : length (first_entries numbers columns count) ≡ count = entries_many count in omega arith) ∙ entry_is count i less
    | inr same ↦ ap (λ n. slice_get (first_entries numbers columns (suc count)) n) (same ∙ sym (entries_many count))
        ∙ (last_at (first_entries numbers columns count) (entry_at numbers columns count) ∙ ap (λ n. Some (entry_at numbers columns n)) (sym same))
  ]

-- entries of which nothing was written
pub entries_same : (numbers others : List ℕ) (columns changed : List (List ℕ)) (count : ℕ) → ((i : ℕ) → i < count → slice_index others i ≡ slice_index numbers i)
    → ((i : ℕ) → i < count → samples_at changed i ≡ samples_at columns i) → first_entries others changed count ≡ first_entries numbers columns count
entries_same numbers others columns changed zero ns ss = refl
entries_same numbers others columns changed (suc count) ns ss =
    let h : first_entries others changed count ≡ first_entries numbers columns count = entries_same numbers others columns changed count (λ i lt. ns i (omega arith)) (λ i lt. ss i (omega arith)) in
    let n : slice_index others count ≡ slice_index numbers count = ns count (omega arith) in
    let s : samples_at changed count ≡ samples_at columns count = ss count (omega arith) in
    cc

replicate_at : (n k : ℕ) (x y : List ℕ) → slice_get (replicate n x) k ≡ Some y → x ≡ y
replicate_at zero k x y at = absurd (none-some y at)
replicate_at (suc n) zero x y at = same_Some x y at
replicate_at (suc n) (suc k) x y at = replicate_at n k x y at

-- columns of zeros
pub new_columns : AreColumns (replicate 16 (replicate 64 0))
new_columns = record { many = refl; long = λ k column at. sym (ap length (replicate_at 16 k (replicate 64 0) column at)) }

-- the entries after a push
pub pushed : (numbers : List ℕ) (columns changed : List (List ℕ)) (count number : ℕ) (samples : List ℕ) → count < length numbers → samples_at changed count ≡ samples
    → ((other : ℕ) → other ≢ count → samples_at changed other ≡ samples_at columns other)
    → first_entries (set numbers count number) changed (suc count) ≡ first_entries numbers columns count ++ record { number = number; samples = samples } ∷ []
pushed numbers columns changed count number samples lt here others =
    let before : first_entries (set numbers count number) changed count ≡ first_entries numbers columns count =
    entries_same numbers (set numbers count number) columns changed count
    (λ i less. let ne : i ≢ count = omega arith in get_or-set_other numbers count i number 0 ne)
    (λ i less. others i (omega arith)) in
    let is : slice_index (set numbers count number) count ≡ number = get_or-set_same numbers count number 0 lt in
    cc
