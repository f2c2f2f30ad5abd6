-- What was found ahead, where one end is taken out.
use Rattle.std.proofs.Common.{◌≡◌, ◌≢◌, ◌+◌, ◌-◌, ◌≤◌, ℕ, List, Option, None, Some, sym, subst, ◌∙◌, inl, inr, arith}
use Rattle.std.specs.Prelude.{IfSome, slice_index_or}
use Rattle.std.proofs.lemmas.Bool.Decides.{eqb_tells}
use Rattle.drt_ahead.specs.Found.{AreThere}

-- What stood at a place has the property there.
pub taken_there : {X : Type 0} (P : ℕ → X → Type 0) (from place : ℕ) (found : List (Option X)) → from ≤ place → AreThere (λ i x. P (from + i) x) found
    → (r : Option X) → r ≡ slice_index_or found (place - from) None → IfSome r (P place)
taken_there P from place found le there None is = tt
taken_there P from place found le there (Some x) is =
    let same : from + (place - from) ≡ place = omega (arith, le) in
    subst (λ n. P n x) same (there (place - from) x (sym is))

-- What is left has it still.
pub rest_there : {X : Type 0} (P : ℕ → X → Type 0) (place : ℕ) (old new : List (Option X)) → AreThere P old → slice_index_or new place None ≡ None
    → ((i : ℕ) → i ≢ place → slice_index_or new i None ≡ slice_index_or old i None) → AreThere P new
rest_there P place old new there gone others i x e = elim (eqb_tells i place) [
  | inl same ↦ (let none : slice_index_or new i None ≡ None = subst (λ j. slice_index_or new j None ≡ None) (sym same.1) gone in absurd (cc))
  | inr other ↦ there i x (sym (others i other.1) ∙ e)
]
