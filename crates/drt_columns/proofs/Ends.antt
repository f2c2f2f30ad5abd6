-- What stands in a list with one more at its end.
use Rattle.std.proofs.Common.{◌≡◌, ◌≢◌, ℕ, zero, suc, ◌<◌, ◌⊎◌, inl, inr, Some, List, [], ◌∷◌, ◌++◌, length, set, refl, arith}
use Rattle.std.specs.Prelude.{slice_get}
use Rattle.std.proofs.lemmas.Option.{none-some, same_Some}

pub last_at : {A : Type 0} (xs : List A) (y : A) → slice_get (xs ++ y ∷ []) (length xs) ≡ Some y
last_at [] y = refl
last_at (x ∷ xs) y = last_at xs y

pub before_at : {A : Type 0} (xs : List A) (y : A) (i : ℕ) → i < length xs → slice_get (xs ++ y ∷ []) i ≡ slice_get xs i
before_at [] y i lt = absurd (omega arith)
before_at (x ∷ xs) y zero lt = refl
before_at (x ∷ xs) y (suc i) lt = before_at xs y i (omega arith)

-- it was there before, or it's the last one
pub end_at : {A : Type 0} (xs : List A) (y : A) (k : ℕ) (z : A) → slice_get (xs ++ y ∷ []) k ≡ Some z → (slice_get xs k ≡ Some z) ⊎ ((k ≡ length xs) × (y ≡ z))
end_at [] y zero z at = inr (refl, same_Some y z at)
end_at [] y (suc k) z at = absurd (none-some z at)
end_at (x ∷ xs) y zero z at = inl at
end_at (x ∷ xs) y (suc k) z at = elim (end_at xs y k z at) as (λ _. (slice_get xs k ≡ Some z) ⊎ ((suc k ≡ suc (length xs)) × (y ≡ z))) [
  | inl h ↦ inl h
  | inr h ↦ inr (omega arith, h.1)
]

-- a write elsewhere
pub set_elsewhere : {A : Type 0} (xs : List A) (i : ℕ) (y : A) (k : ℕ) → k ≢ i → slice_get (set xs i y) k ≡ slice_get xs k
set_elsewhere [] i y k ne = refl
set_elsewhere (x ∷ xs) zero y zero ne = absurd (ne refl)
set_elsewhere (x ∷ xs) zero y (suc k) ne = refl
set_elsewhere (x ∷ xs) (suc i) y zero ne = refl
set_elsewhere (x ∷ xs) (suc i) y (suc k) ne = set_elsewhere xs i y k (λ e. ne (omega arith))
