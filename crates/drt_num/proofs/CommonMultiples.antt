-- Least common multiples: how they follow from the greatest common divisor, that they exist, and that there is one.
use Rattle.std.proofs.Common.{◌≡◌, ℕ, ◌*◌, ◌/◌, ◌<◌, suc, arith}
use Rattle.std.specs.Int.{IsGcd, ◌∣◌}
use Rattle.std.proofs.Math.Nat.{dvd-mul_left, dvd-mul_right, mul-dvd-mul_right, dvd_of_mul-dvd-mul_right, mul-div_cancel', mul_comm}
use Rattle.std.proofs.lemmas.Nat.Gcd.{dvd_antisymm}
use Rattle.drt_num.specs.Multiple.{IsLcm}
use Rattle.drt_num.proofs.Divisors.{gcd_positive, gcd_exists, gcd_scaled}

both : (a b n : ℕ) → a ∣ n → a * b ∣ n * b
both a b n h = mul-dvd-mul_right a h b

-- A number divided by the greatest common divisor and taken the other number times is the least common multiple.
pub least_multiple : (a b g : ℕ) → 0 < b → IsGcd a b g → IsLcm a b (a / g * b)
least_multiple a b g some is =
    let pos = gcd_positive a b g some is in
    let ea : g * (a / g) ≡ a = mul-div_cancel' g is.0 in
    let eb : g * (b / g) ≡ b = mul-div_cancel' g is.1 in
    let m : a / g * b ≡ a * (b / g) = swapped a b g (a / g) (b / g) ea eb in
    let mg : a * b ≡ a / g * b * g = shared a b g (a / g) ea in (
      rw m (dvd-mul_right a (b / g)),
      dvd-mul_left b (a / g),
      λ n p q.
          dvd_of_mul-dvd-mul_right (a / g * b) pos (rw (← mg) ((gcd_scaled a b g n is).2 (a * b) (rw (mul_comm a b) (both b a n q)) (both a b n p))),
    )
  where
    swapped : (a b g x y : ℕ) → g * x ≡ a → g * y ≡ b → x * b ≡ a * y
    swapped a b g x y e f = rw (← e, ← f) (omega arith)

    shared : (a b g x : ℕ) → g * x ≡ a → a * b ≡ x * b * g
    shared a b g x e = rw (← e) (omega arith)

-- Two numbers, the second of them positive, have a least common multiple.
pub lcm_exists : (a b : ℕ) → 0 < b → (m : ℕ) × IsLcm a b m
lcm_exists a b some =
    let g = gcd_exists (suc b) a b (omega arith) in
    (a / g.0 * b, least_multiple a b g.0 some g.1.0)

-- The least common multiple is one number.
pub lcm_same : (a b m n : ℕ) → IsLcm a b m → IsLcm a b n → m ≡ n
lcm_same a b m n p q = dvd_antisymm (p.2 n q.0 q.1) (q.2 m p.0 p.1)
