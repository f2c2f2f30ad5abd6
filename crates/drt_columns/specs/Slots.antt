-- The entries of a block, whose samples stand in columns, and masks of its slots.
use Rattle.std.specs.Prelude.{◌≡◌, ◌≢◌, ℕ, zero, suc, ◌<◌, nat_lt, Some, List, [], ◌∷◌, ◌++◌, length, map, slice_get, slice_index, if◌then◌else◌}
use Rattle.drt_columns.specs.Entries.{KeptLabel, IsRuledOut}

-- The samples at a slot of the columns.
abbrev pub samples_at : List (List ℕ) → ℕ → List ℕ
samples_at columns slot = map (λ column. slice_index column slot) columns

-- Columns for 16 samples, of 64 slots each.
pub record AreColumns (columns : List (List ℕ)) : Type 0 where
  pub many : length columns ≡ 16
  pub long : (k : ℕ) (column : List ℕ) → slice_get columns k ≡ Some column → length column ≡ 64

-- The entries in the first slots.
abbrev pub first_entries : List ℕ → List (List ℕ) → ℕ → List KeptLabel
first_entries numbers columns zero = []
first_entries numbers columns (suc slot) = first_entries numbers columns slot ++ record { number = slice_index numbers slot; samples = samples_at columns slot } ∷ []

-- What a mask has at a slot after a sample there was compared with the least one.
abbrev pub kept : ℕ → ℕ → ℕ → ℕ
kept least sample before = if nat_lt sample least then 0 else before

-- A mask with 0 at a slot only where the entry there has a sample that is less, and at each slot without an entry.
pub record IsMask (block : List KeptLabel) (samples mask : List ℕ) : Type 0 where
  pub below : (slot : ℕ) (e : KeptLabel) → slice_get block slot ≡ Some e → slice_index mask slot ≡ 0 → IsRuledOut samples e
  pub used : (slot : ℕ) → slice_index mask slot ≢ 0 → slot < length block
