-- Lengths and bounds of the values.
use Rattle.std.proofs.Common.{◌≡◌, ℕ, suc, zero, ◌+◌, ◌-◌, ◌≤◌, List, [], ◌∷◌, length, refl, ap, arith, replicate}
use Rattle.std.specs.Prelude.{slice_index}
use Rattle.drt_steps.specs.Values.{raise, max_of, value_at}

pub length-raise : (k w : ℕ) (xs : List ℕ) → length (raise k w xs) ≡ length xs
length-raise k w [] = refl
length-raise zero w (x ∷ xs) = ap suc (length-raise zero w xs)
length-raise (suc k) w (x ∷ xs) = ap suc (length-raise k w xs)

pub length-max_of : (xs ys : List ℕ) → length xs ≡ length ys → length (max_of xs ys) ≡ length xs
length-max_of [] ys e = refl
length-max_of (x ∷ xs) [] e = absurd (let h : length xs + 1 ≡ 0 = omega arith in omega arith)
length-max_of (x ∷ xs) (y ∷ ys) e = ap suc (length-max_of xs ys (omega arith))

at_flat : (n v i : ℕ) → slice_index (replicate n v) i ≤ v
at_flat zero v i = omega arith
at_flat (suc n) v zero = omega arith
at_flat (suc n) v (suc i) = at_flat n v i

at_raised : (k w : ℕ) (xs : List ℕ) (i : ℕ) → slice_index (raise k w xs) i ≤ slice_index xs i + w
at_raised k w [] i = omega arith
at_raised zero w (x ∷ xs) zero = omega arith
at_raised (suc k) w (x ∷ xs) zero = omega arith
at_raised zero w (x ∷ xs) (suc i) = at_raised zero w xs i
at_raised (suc k) w (x ∷ xs) (suc i) = at_raised k w xs i

pub flat_small : (n v t : ℕ) → value_at (replicate n v) t ≤ v
unfolding value_at
flat_small n v t = at_flat n v (t - 1)

pub raised_small : (k w : ℕ) (xs : List ℕ) (t : ℕ) → value_at (raise k w xs) t ≤ value_at xs t + w
unfolding value_at
raised_small k w xs t = at_raised k w xs (t - 1)
