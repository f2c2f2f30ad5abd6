-- A look at the entries of a vertex: what it hasn't come to, and what it answers.
use Rattle.std.specs.Prelude.{◌≡◌, ℕ, ◌+◌, Option, Some, None, List, [], ◌∷◌, ◌++◌, drop, slice_get}
use Rattle.drt_columns.specs.Entries.{KeptLabel, AreRuledOut}
use Rattle.drt_columns.specs.Shelf.{Shelf, entries_in}
use Rattle.drt_columns.specs.Slots.{IsMask}
use Rattle.drt_columns.specs.declared.seek.Seek.{Seek}

-- The entries of the first block, from a slot on.
abbrev pub entries_here : List (List KeptLabel) → ℕ → List KeptLabel
entries_here [] slot = []
entries_here (block ∷ blocks) slot = drop slot block

-- The entries that a look hasn't come to.
abbrev pub remaining : Shelf → Seek → List KeptLabel
remaining shelf seek =
    entries_here (drop seek.block shelf.blocks) seek.slot
    ++ entries_in seek.vertex (drop (seek.block + 1) shelf.owners) (drop (seek.block + 1) shelf.blocks)

-- The mask of a look is one of the block that it's at.
pub record IsSeeking (shelf : Shelf) (seek : Seek) : Type 0 where
  pub masked : (block : List KeptLabel) → slice_get shelf.blocks seek.block ≡ Some block → IsMask block seek.samples seek.possible

-- A look for entries none of whose samples is less than these, with the entries that it hasn't come to.
pub record IsSeek (shelf : Shelf) (seek : Seek) (samples : List ℕ) (rest : List KeptLabel) : Type 0 where
  pub seeking : IsSeeking shelf seek
  pub samples_is : seek.samples ≡ samples
  pub rest_is : remaining shelf seek ≡ rest

-- A look goes on after an entry of that number. Each entry before it has a sample that is less.
pub record IsFoundLabelAt (shelf : Shelf) (seek : Seek) (samples : List ℕ) (rest : List KeptLabel) (number : ℕ) : Type 0 where
  pub passed : List KeptLabel
  pub entry : KeptLabel
  pub after : List KeptLabel
  pub rest_is : rest ≡ passed ++ entry ∷ after
  pub below : AreRuledOut samples passed
  pub number_is : entry.number ≡ number
  pub seek_is : IsSeek shelf seek samples after

-- What a look answers where these entries are left. Where it answers nothing, each has a sample that is less.
abbrev pub IsFoundLabel : Shelf → Seek → List ℕ → List KeptLabel → Option ℕ → Type 0
IsFoundLabel shelf seek samples rest None = AreRuledOut samples rest
IsFoundLabel shelf seek samples rest (Some number) = IsFoundLabelAt shelf seek samples rest number
