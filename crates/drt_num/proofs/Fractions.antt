-- Fractions in lowest terms.
use Rattle.std.proofs.Common.{◌≡◌, ℕ, ◌*◌, ◌/◌, ◌<◌, ◌≤◌, zero, suc, subst, ◌∙◌, arith}
use Rattle.std.specs.Int.{IsGcd, ◌∣◌}
use Rattle.std.proofs.Math.Nat.{mul-dvd-mul_right, dvd_of_mul-dvd-mul_right, mul-div_cancel', mul_comm, one-dvd}

-- Two numbers divided by their greatest common divisor have the divisor 1.
pub lowest_terms : (a b g : ℕ) → 0 < g → IsGcd a b g → IsGcd (a / g) (b / g) 1
lowest_terms a b g pos is =
    let ea : a / g * g ≡ a = mul_comm (a / g) g ∙ mul-div_cancel' g is.0 in
    let eb : b / g * g ≡ b = mul_comm (b / g) g ∙ mul-div_cancel' g is.1 in (
      one-dvd (a / g),
      one-dvd (b / g),
      λ d p q.
          let both : d * g ∣ g = is.2 (d * g) (subst (λ x. d * g ∣ x) ea (mul-dvd-mul_right d p g)) (subst (λ x. d * g ∣ x) eb (mul-dvd-mul_right d q g)) in
          let e : g ≡ 1 * g = omega arith in
          dvd_of_mul-dvd-mul_right d pos (subst (λ x. d * g ∣ x) e both),
    )

-- The fraction in lowest terms has the value of the fraction.
pub same_value : (a b g : ℕ) → IsGcd a b g → a / g * b ≡ a * (b / g)
same_value a b g is = turned (a / g) (b / g) (mul-div_cancel' g is.0) (mul-div_cancel' g is.1)
  where
    turned : (x y : ℕ) → g * x ≡ a → g * y ≡ b → x * b ≡ a * y
    turned x y e f = rw (← e, ← f) (omega arith)

-- The denominator in lowest terms is positive.
pub part_positive : (a b g : ℕ) → 0 < b → IsGcd a b g → 1 ≤ b / g
part_positive a b g pos is = positive (b / g) (mul-div_cancel' g is.1)
  where
    positive : (x : ℕ) → g * x ≡ b → 1 ≤ x
    positive zero e = let z : g * 0 ≡ 0 = omega arith in absurd (omega arith)
    positive (suc x) e = omega arith
