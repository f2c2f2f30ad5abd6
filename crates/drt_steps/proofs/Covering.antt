-- What it means that a function covers another one, and that it has a lower value at one time.
use Rattle.std.proofs.Common.{◌≡◌, ℕ, suc, zero, ◌-◌, ◌<◌, ◌≤◌, Bool, true, false, max, List, [], ◌∷◌, length, refl, ap, ◌∙◌, arith}
use Rattle.std.specs.Prelude.{nat_le, ◌&&◌, slice_index}
use Rattle.std.proofs.lemmas.Bool.Decides.{nat_tests}
use Rattle.drt_steps.specs.Values.{covers, max_of, value_at}
use Rattle.drt_steps.proofs.Merging.{and_false, not_le}

below_place : (xs ys : List ℕ) (k : ℕ) → k < length xs → slice_index xs k < slice_index ys k → covers xs ys ≡ false
below_place [] ys k lt less = absurd (omega arith)
below_place (x ∷ xs) [] k lt less = refl
below_place (x ∷ xs) (y ∷ ys) zero lt less = ap (λ b. b && covers xs ys) (not_le y x less)
below_place (x ∷ xs) (y ∷ ys) (suc k) lt less = ap (λ b. nat_le y x && b) (below_place xs ys k (omega (arith, lt)) less) ∙ and_false (nat_le y x)

pub below_at : (xs ys : List ℕ) (t : ℕ) → 1 ≤ t → t ≤ length xs → value_at xs t < value_at ys t → covers xs ys ≡ false
unfolding value_at
below_at xs ys t from to less = below_place xs ys (t - 1) (omega (arith, from, to)) less

-- the greater of two functions is the one that covers the other one
own_at : (x y : ℕ) (xs ys : List ℕ) (b : Bool) → nat_le y x ≡ b → (b && covers xs ys) ≡ true → (covers xs ys ≡ true → max_of xs ys ≡ xs) → max_of (x ∷ xs) (y ∷ ys) ≡ x ∷ xs
own_at x y xs ys false p e more = absurd (grind (arith, e))
own_at x y xs ys true p e more =
    let le : y ≤ x = grind (arith, nat_tests) in
    ap (λ z. z ∷ max_of xs ys) (let g : max x y ≡ x = omega arith in g) ∙ ap (λ zs. x ∷ zs) (more e)

pub most_own : (xs ys : List ℕ) → covers xs ys ≡ true → max_of xs ys ≡ xs
most_own [] ys e = refl
most_own (x ∷ xs) [] e = absurd (grind (arith, e))
most_own (x ∷ xs) (y ∷ ys) e = own_at x y xs ys (nat_le y x) refl e (most_own xs ys)

other_at : (x y : ℕ) (xs ys : List ℕ) (b : Bool) → nat_le x y ≡ b → (b && covers ys xs) ≡ true → (covers ys xs ≡ true → max_of xs ys ≡ ys) → max_of (x ∷ xs) (y ∷ ys) ≡ y ∷ ys
other_at x y xs ys false p e more = absurd (grind (arith, e))
other_at x y xs ys true p e more =
    let le : x ≤ y = grind (arith, nat_tests) in
    ap (λ z. z ∷ max_of xs ys) (let g : max x y ≡ y = omega arith in g) ∙ ap (λ zs. y ∷ zs) (more e)

pub most_other : (xs ys : List ℕ) → covers ys xs ≡ true → max_of xs ys ≡ ys
most_other [] [] e = refl
most_other [] (y ∷ ys) e = absurd (grind (arith, e))
most_other (x ∷ xs) [] e = absurd (grind (arith, e))
most_other (x ∷ xs) (y ∷ ys) e = other_at x y xs ys (nat_le x y) refl e (most_other xs ys)
