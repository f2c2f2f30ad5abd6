-- Sums over a list, of which a step changes one item.
use Rattle.std.proofs.Common.{◌≡◌, ℕ, zero, suc, ◌+◌, ◌≤◌, ◌≢◌, List, [], ◌∷◌, set, sym, refl, ap, arith}
use mathlib.Core.Option.{some, some-injective, some-ne-none}
use lib.ListN.{get_elem?}
use Rattle.drt_worklist.specs.Places.{total}

module _ {A : Type 0} (g : A → ℕ) where
  pub total-set : (l : List A) (j : ℕ) (v w : A) → get_elem? l j ≡ some v → total g (set l j w) + g v ≡ total g l + g w
  total-set [] j v w e = absurd (some-ne-none v (sym e))
  total-set (x ∷ xs) zero v w e = omega (arith, ap g (some-injective x v e))
  total-set (x ∷ xs) (suc j) v w e = omega (arith, total-set xs j v w e)

  pub term_le : (l : List A) (j : ℕ) (v : A) → get_elem? l j ≡ some v → g v ≤ total g l
  term_le [] j v e = absurd (some-ne-none v (sym e))
  term_le (x ∷ xs) zero v e = omega (arith, ap g (some-injective x v e))
  term_le (x ∷ xs) (suc j) v e = omega (arith, term_le xs j v e)

  pub terms_le : (l : List A) (j k : ℕ) (v u : A) → k ≢ j → get_elem? l j ≡ some v → get_elem? l k ≡ some u → g v + g u ≤ total g l
  terms_le [] j k v u n e d = absurd (some-ne-none v (sym e))
  terms_le (x ∷ xs) zero zero v u n e d = absurd (n refl)
  terms_le (x ∷ xs) zero (suc k) v u n e d = omega (arith, ap g (some-injective x v e), term_le xs k u d)
  terms_le (x ∷ xs) (suc j) zero v u n e d = omega (arith, ap g (some-injective x u d), term_le xs j v e)
  terms_le (x ∷ xs) (suc j) (suc k) v u n e d = omega (arith, terms_le xs j k v u (λ h. n (ap suc h)) e d)

  pub total-zero : (l : List A) → ((i : ℕ) (v : A) → get_elem? l i ≡ some v → g v ≡ 0) → total g l ≡ 0
  total-zero [] h = refl
  total-zero (x ∷ xs) h = omega (arith, h zero x refl, total-zero xs (λ i v e. h (suc i) v e))

  pub total-le : (f : A → ℕ) (l : List A) → ((i : ℕ) (v : A) → get_elem? l i ≡ some v → g v ≤ f v) → total g l ≤ total f l
  total-le f [] h = omega arith
  total-le f (x ∷ xs) h = omega (arith, h zero x refl, total-le f xs (λ i v e. h (suc i) v e))

-- where one has the whole of f, and g is 0 where f is, one has the whole of g
pub total-one : {A : Type 0} (f g : A → ℕ) (l : List A) (j : ℕ) (v : A) → get_elem? l j ≡ some v → total f l ≡ f v → ((i : ℕ) (u : A) → get_elem? l i ≡ some u → f u ≡ 0 → g u ≡ 0) → total g l ≡ g v
total-one f g [] j v e whole h = absurd (some-ne-none v (sym e))
total-one f g (x ∷ xs) zero v e whole h =
    let nothing : total f xs ≡ 0 = omega (arith, ap f (some-injective x v e)) in
    omega (arith, ap g (some-injective x v e), total-zero g xs (λ i u at. h (suc i) u at (omega (arith, term_le f xs i u at))))
total-one f g (x ∷ xs) (suc j) v e whole h =
    let part = term_le f xs j v e in
    omega (arith, h zero x refl (omega arith), total-one f g xs j v e (omega arith) (λ i u at. h (suc i) u at))
