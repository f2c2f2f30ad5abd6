-- Products of the elements of a list.
use Rattle.std.proofs.Common.{◌≡◌, inl, inr, ℕ, zero, suc, ◌*◌, ◌<◌, ◌≤◌, List, [], ◌∷◌, ◌++◌, length, get_or, set, refl, sym, ap, ◌∙◌, subst, arith}
use Rattle.std.specs.List.{swap}
use Rattle.std.specs.List.Sorted.{IsPermutation}
use Rattle.std.proofs.Math.Nat.{le_of_mul-le-mul_right}
use Rattle.std.proofs.lemmas.Bool.{cases_eq}
use Rattle.std.proofs.lemmas.List.{length-set, get_or-set_same, get_or-set_other}
use Rattle.std.proofs.lemmas.List.Edits.{swap_is}
use Rattle.std.proofs.lemmas.List.Sorted.{IsPermutation-keeps}

abbrev pub product : List ℕ → ℕ
product [] = 1
product (x ∷ xs) = x * product xs

pub product_push : (xs : List ℕ) (y : ℕ) → product (xs ++ y ∷ []) ≡ product xs * y
product_push [] y = omega arith
product_push (x ∷ xs) y = let h = ap (λ n. x * n) (product_push xs y) in omega (arith, h)

-- An element that is replaced.
product_set : (xs : List ℕ) (i y d : ℕ) → i < length xs → product (set xs i y) * get_or xs i d ≡ product xs * y
product_set [] i y d l = absurd (omega arith)
product_set (x ∷ xs) zero y d l = omega arith
product_set (x ∷ xs) (suc i) y d l = let h = ap (λ n. x * n) (product_set xs i y d (omega (arith, l))) in omega (arith, h)

-- A product with an element 0 is 0.
product_none : (xs : List ℕ) (i d : ℕ) → i < length xs → get_or xs i d ≡ 0 → product xs ≡ 0
product_none [] i d l e = absurd (omega arith)
product_none (x ∷ xs) zero d l e = ap (λ n. n * product xs) e ∙ omega arith
product_none (x ∷ xs) (suc i) d l e = ap (λ n. x * n) (product_none xs i d (omega (arith, l)) e) ∙ omega arith

cancel : (a b k : ℕ) → a * suc k ≡ b * suc k → a ≡ b
cancel a b k e =
    let below : a ≤ b = le_of_mul-le-mul_right {m = a} {n = b} {k = suc k} (omega (arith, e)) (omega arith) in
    let above : b ≤ a = le_of_mul-le-mul_right {m = b} {n = a} {k = suc k} (omega (arith, e)) (omega arith) in
    omega arith

-- Two elements in each other's place, first that at i.
abbrev first : List ℕ → ℕ → ℕ → List ℕ
first xs i j = set xs i (get_or xs j 0)

abbrev second : List ℕ → ℕ → ℕ → List ℕ
second xs i j = set (first xs i j) j (get_or xs i 0)

module _ (xs : List ℕ) (i j : ℕ) (l : i < length xs) (m : j < length xs) where
  long : length (first xs i j) ≡ length xs
  long = length-set xs i (get_or xs j 0)

  first_at : get_or (first xs i j) j 0 ≡ get_or xs j 0
  first_at = elim (cases_eq j i) [
    | inl e ↦ ap (λ n. get_or (first xs i j) n 0) e ∙ get_or-set_same xs i (get_or xs j 0) 0 l
    | inr ne ↦ get_or-set_other xs i j (get_or xs j 0) 0 ne
  ]

  second_at : get_or (second xs i j) i 0 ≡ get_or xs j 0
  second_at = elim (cases_eq i j) [
    | inl e ↦ ap (λ n. get_or (second xs i j) n 0) e ∙ (get_or-set_same (first xs i j) j (get_or xs i 0) 0 (omega (arith, long)) ∙ ap (λ n. get_or xs n 0) e)
    | inr ne ↦ get_or-set_other (first xs i j) j i (get_or xs i 0) 0 ne ∙ get_or-set_same xs i (get_or xs j 0) 0 l
  ]

  scaled : product (second xs i j) * get_or xs j 0 ≡ product xs * get_or xs j 0
  scaled =
      let a = product_set xs i (get_or xs j 0) 0 l in
      let b = product_set (first xs i j) j (get_or xs i 0) 0 (omega (arith, long)) in
      ap (λ n. product (second xs i j) * n) (sym first_at) ∙ (b ∙ a)

  by_element : (n : ℕ) → get_or xs j 0 ≡ n → product (second xs i j) ≡ product xs
  by_element zero e = product_none (second xs i j) i 0 (omega (arith, long, length-set (first xs i j) j (get_or xs i 0))) (second_at ∙ e) ∙ sym (product_none xs j 0 m e)
  by_element (suc n) e = cancel (product (second xs i j)) (product xs) n (subst (λ k. product (second xs i j) * k ≡ product xs * k) e scaled)

  product_swap : product (swap xs i j) ≡ product xs
  product_swap = ap product (sym (swap_is xs i j 0 l m)) ∙ by_element (get_or xs j 0) refl

-- The order of the elements doesn't matter.
pub product_permutation : (xs ys : List ℕ) → IsPermutation xs ys → product ys ≡ product xs
product_permutation xs ys = IsPermutation-keeps xs (λ l. product l ≡ product xs) refl (λ l i j p q h. product_swap l i j p q ∙ h) ys
