-- Answers at their places.
use Rattle.std.specs.Prelude.{◌≡◌, ℕ, ◌⊎◌, All, List, None, Option, Some, slice_index_or}
use Rattle.drt_ahead.specs.declared.found.Answer.{Answer}

module _ {X : Type 0} where
  -- What is at a place has this property there, if anything is.
  abbrev pub AreThere : (ℕ → X → Type 0) → List (Option X) → Type 0
  AreThere P found = (i : ℕ) (x : X) → slice_index_or found i None ≡ Some x → P i x

  -- What is at a place of the new list was there, or is this one at this place.
  abbrev pub AreWith : ℕ → X → List (Option X) → List (Option X) → Type 0
  AreWith place x old new = (i : ℕ) (y : X) → slice_index_or new i None ≡ Some y → (slice_index_or old i None ≡ Some y) ⊎ ((i ≡ place) × (y ≡ x))

  -- Each answer has this property at its place.
  abbrev pub AreAnswers : (ℕ → X → Type 0) → List (Answer X) → Type 0
  AreAnswers P answers = All (λ a. P a.place a.value) answers
