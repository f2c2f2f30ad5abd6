-- Whole turns of cycles, in plain numbers.
use Rattle.std.proofs.Common.{◌≡◌, ℕ, suc, ◌+◌, ◌*◌, ◌/◌, ◌<◌, ◌≤◌, ◌⊎◌, inl, inr, arith, ap, mul-le-mul_left}
use Rattle.std.proofs.lemmas.Bool.{cases_lt}
use Rattle.std.proofs.Math.Nat.{div-lt_iff_lt-mul}

-- Of one cycle: n whole turns of span p within t.
pub one : (scale w p x t n : ℕ) → scale * w ≡ x * p → t < suc n * p → x * t ≤ scale * (n * w) + scale * w
one scale w p x t n e l =
    let m : x * t ≤ x * (suc n * p) = mul-le-mul_left x (omega arith) in
    let f : suc n * (scale * w) ≡ suc n * (x * p) = ap (λ k. suc n * k) e in
    omega arith

-- The turn after the last whole one within t ends past t.
pub turn_end : (t p : ℕ) → 1 ≤ p → t < suc (t / p) * p
turn_end t p some = (div-lt_iff_lt-mul some).0 (omega arith)

-- With a rate above the scale by d, whole turns are too much at t.
pub plain : (scale d w t x : ℕ) → 0 < d → (scale + d) * t ≤ scale * x + scale * w → scale * w < t * d → t < x
plain scale d w t x some l m = go (cases_lt t x)
  where
    go : (t < x) ⊎ (x ≤ t) → t < x
    go (inl h) = h
    go (inr h) = let k = mul-le-mul_left scale h in absurd (omega arith)
