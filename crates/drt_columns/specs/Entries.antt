-- What is kept of labels, and what a look at few of their samples tells.
use Rattle.std.specs.Prelude.{◌≡◌, ℕ, ◌<◌, Some, List, slice_get, slice_index}

-- What is kept of a label: its number, and its samples.
pub record KeptLabel : Type 0 where
  pub number : ℕ
  pub samples : List ℕ

-- One of the entry's samples is less than the one of these at its place.
abbrev pub IsRuledOut : List ℕ → KeptLabel → Type 0
IsRuledOut samples e = (k : ℕ) × (slice_index e.samples k < slice_index samples k)

-- Each entry has a sample that is less.
abbrev pub AreRuledOut : List ℕ → List KeptLabel → Type 0
AreRuledOut samples entries = (i : ℕ) (e : KeptLabel) → slice_get entries i ≡ Some e → IsRuledOut samples e
