-- Scale and rate of the ratios 2/5 and 4/7, and the ratio of one loop.
use Rattle.std.proofs.Common.{◌≡◌, ℕ, ◌-◌, ◌*◌, ◌/◌, List, [], ◌∷◌, refl, subst, lit≤, arith}
use Rattle.std.specs.Int.{◌∣◌, IsGcd}
use Rattle.std.proofs.Math.Nat.{dvd-mul_left, mul-div_cancel'}
use Rattle.std.proofs.lemmas.Nat.Gcd.{IsGcd-from_zero, IsGcd-from_mod, IsGcd-swap}
use Rattle.drt_model.specs.Utilisation.{Fraction, IsScale, rate}

abbrev pub fraction : ℕ → ℕ → Fraction
fraction a b = record { num = a; den = b }

-- 2/5 is in lowest terms.
pub lowest : IsGcd 2 5 1
lowest = IsGcd-swap 5 2 1 (IsGcd-from_mod 5 2 1 (IsGcd-from_mod 2 1 1 (IsGcd-from_zero 1 0 refl)))

abbrev pub ratios : List Fraction
ratios = fraction 2 5 ∷ fraction 4 7 ∷ []

-- A multiple of 5 and 7 is one of 35: 15 times it less 14 times it.
multiple : (m x y : ℕ) → 5 * x ≡ m → 7 * y ≡ m → 35 ∣ m
multiple m x y e f =
    let is : (3 * y - 2 * x) * 35 ≡ m = omega (arith, e, f) in
    subst (λ n. 35 ∣ n) is (dvd-mul_left 35 (3 * y - 2 * x))

-- The scale is 35.
pub scale_is : IsScale ratios 35
scale_is = record {
  some = lit≤ tt;
  multiple = (dvd-mul_left 5 7, (dvd-mul_left 7 5, tt));
  least = λ m each. multiple m (m / 5) (m / 7) (mul-div_cancel' 5 each.0) (mul-div_cancel' 7 each.1.0);
}

-- The rate is 14 + 20, so that the utilisation is 34/35.
pub rate_is : rate 35 ratios ≡ 34
unfolding rate
rate_is = refl
