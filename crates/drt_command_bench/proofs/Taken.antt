-- What is left of answers once one is taken.
use Rattle.std.proofs.Common.{◌≡◌, ℕ, Bool, true, false, eqb, List, refl, sym, ◌∙◌}
use Rattle.std.specs.Prelude.{◌≢◌, None, Option, slice_index_or}
use Rattle.std.proofs.lemmas.Bool.{eqb-true, eqb-false}
use Rattle.drt_ahead.specs.Found.{AreThere}

module _ {X : Type 0} where
  -- What is at other places has its property there.
  pub left_there : (P : ℕ → X → Type 0) (old new : List (Option X)) (place : ℕ) → AreThere P old → slice_index_or new place None ≡ None
      → ((i : ℕ) → i ≢ place → slice_index_or new i None ≡ slice_index_or old i None) → AreThere P new
  left_there P old new place there gone others i x is = go (eqb i place) refl
    where
      go : (b : Bool) → eqb i place ≡ b → P i x
      go true e = absurd (let same : i ≡ place = eqb-true i place e in let none : slice_index_or new i None ≡ None = rw same gone in cc)
      go false e = there i x (sym (others i (eqb-false i place e)) ∙ is)
