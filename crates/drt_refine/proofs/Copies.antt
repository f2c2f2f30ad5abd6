-- A copy of a part of a list with one element changed, element by element.
use Rattle.std.proofs.Common.{◌≡◌, ℕ, suc, zero, ◌+◌, ◌<◌, Some, List, [], ◌∷◌, ◌++◌, take, drop, refl, sym, ap, ◌∙◌, arith, set, add-one, zero-add}
use Rattle.std.specs.Prelude.{slice_get}
use Rattle.std.proofs.lemmas.Option.{none-some, same_Some}

take_suc : (xs : List ℕ) (k x : ℕ) → slice_get xs k ≡ Some x → take (suc k) xs ≡ take k xs ++ x ∷ []
take_suc [] k x at = absurd (none-some x at)
take_suc (y ∷ xs) zero x at = ap (λ z. z ∷ take 0 xs) (same_Some y x at) ∙ ap (λ zs. x ∷ zs) (take_none xs)
  where
    take_none : (xs : List ℕ) → take 0 xs ≡ []
    take_none [] = refl
    take_none (x ∷ xs) = refl
take_suc (y ∷ xs) (suc k) x at = ap (λ zs. y ∷ zs) (take_suc xs k x at)

pub take_push : (xs : List ℕ) (k x : ℕ) → slice_get xs k ≡ Some x → take (k + 1) xs ≡ take k xs ++ x ∷ []
take_push xs k x at = ap (λ n. take n xs) (add-one k) ∙ take_suc xs k x at

at_drop : (a k x : ℕ) (xs : List ℕ) → slice_get xs (a + k) ≡ Some x → slice_get (drop a xs) k ≡ Some x
at_drop zero k x [] at = absurd (none-some x at)
at_drop zero k x (y ∷ xs) at = ap (λ n. slice_get (y ∷ xs) n) (sym (zero-add k)) ∙ at
at_drop (suc a) k x [] at = absurd (none-some x at)
at_drop (suc a) k x (y ∷ xs) at = at_drop a k x xs (ap (λ n. slice_get (y ∷ xs) n) (let e : suc (a + k) ≡ suc a + k = omega arith in e) ∙ at)

at_take : (w k x : ℕ) (xs : List ℕ) → k < w → slice_get xs k ≡ Some x → slice_get (take w xs) k ≡ Some x
at_take w k x [] lt at = absurd (none-some x at)
at_take zero k x (y ∷ xs) lt at = absurd (omega arith)
at_take (suc w) zero x (y ∷ xs) lt at = at
at_take (suc w) (suc k) x (y ∷ xs) lt at = at_take w k x xs (omega arith) at

pub at_part : (w a k x : ℕ) (xs : List ℕ) → k < w → slice_get xs (a + k) ≡ Some x → slice_get (take w (drop a xs)) k ≡ Some x
at_part w a k x xs lt at = at_take w k x (drop a xs) lt (at_drop a k x xs at)

pub at_set_same : (xs : List ℕ) (p k x y : ℕ) → k ≡ p → slice_get xs k ≡ Some y → slice_get (set xs p x) k ≡ Some x
at_set_same [] p k x y e at = absurd (none-some y at)
at_set_same (z ∷ xs) zero zero x y e at = refl
at_set_same (z ∷ xs) zero (suc k) x y e at = absurd (omega arith)
at_set_same (z ∷ xs) (suc p) zero x y e at = absurd (omega arith)
at_set_same (z ∷ xs) (suc p) (suc k) x y e at = at_set_same xs p k x y (omega arith) at

pub at_set_other : (xs : List ℕ) (p k x y : ℕ) → (k ≡ p → ⊥) → slice_get xs k ≡ Some y → slice_get (set xs p x) k ≡ Some y
at_set_other [] p k x y ne at = absurd (none-some y at)
at_set_other (z ∷ xs) zero zero x y ne at = absurd (ne refl)
at_set_other (z ∷ xs) zero (suc k) x y ne at = at
at_set_other (z ∷ xs) (suc p) zero x y ne at = at
at_set_other (z ∷ xs) (suc p) (suc k) x y ne at = at_set_other xs p k x y (λ e. ne (omega arith)) at

pub append_twice : (xs ys zs : List ℕ) → (xs ++ ys) ++ zs ≡ xs ++ (ys ++ zs)
append_twice [] ys zs = refl
append_twice (x ∷ xs) ys zs = ap (λ l. x ∷ l) (append_twice xs ys zs)
