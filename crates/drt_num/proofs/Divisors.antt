-- Greatest common divisors: they are positive, they exist, and they grow with the numbers.
use Rattle.std.proofs.Common.{◌≡◌, ℕ, ◌+◌, ◌*◌, ◌/◌, ◌%◌, ◌<◌, zero, suc, arith, refl}
use Rattle.std.specs.Int.{IsGcd}
use Rattle.std.proofs.Math.Nat.{dvd-add, dvd-add_iff_right, dvd-mul_right_of_dvd, mul-div_cancel'}
use Rattle.std.proofs.lemmas.Nat.{div-add-mod', mod_below}
use Rattle.std.proofs.lemmas.Nat.Gcd.{dvd_refl, dvd-zero, IsGcd-from_zero, IsGcd-from_mod, same_from_IsGcd}

-- The divisor of a number and a positive one is positive.
pub gcd_positive : (a b g : ℕ) → 0 < b → IsGcd a b g → 0 < g
gcd_positive a b g pos is = positive g (mul-div_cancel' g is.1)
  where
    positive : (g : ℕ) → g * (b / g) ≡ b → 0 < g
    positive zero e = absurd (omega arith)
    positive (suc g) e = omega arith

split : (n x y q r : ℕ) → q * y + r ≡ x → n * x ≡ (n * y) * q + n * r
split n x y q r e = rw (← e) (omega arith)

step_with : (n x y q r g : ℕ) → q * y + r ≡ x → IsGcd (n * y) (n * r) g → IsGcd (n * x) (n * y) g
step_with n x y q r g e h =
    let s = split n x y q r e in
    (rw s (dvd-add g (dvd-mul_right_of_dvd g h.0 q) h.1), h.0, λ d p k. h.2 d k ((dvd-add_iff_right d (dvd-mul_right_of_dvd d k q)).1 (rw s at p)))

-- One step of Euclid's algorithm, with both numbers taken n times.
pub scaled_step : (n x y g : ℕ) → IsGcd (n * y) (n * (x % y)) g → IsGcd (n * x) (n * y) g
scaled_step n x y g h = step_with n x y (x / y) (x % y) g (div-add-mod' x y) h

-- Its last step.
pub scaled_end : (n x y : ℕ) → y ≡ 0 → IsGcd (n * x) (n * y) (n * x)
scaled_end n x y e = rw e (dvd_refl (n * x), let z : n * 0 ≡ 0 = omega arith in rw z (dvd-zero (n * x)), λ d p q. p)

-- Each two numbers have a greatest common divisor, and it grows with them.
pub gcd_exists : (n a b : ℕ) → b < n → (g : ℕ) × (IsGcd a b g × ((k : ℕ) → IsGcd (k * a) (k * b) (k * g)))
gcd_exists zero a b l = absurd (omega arith)
gcd_exists (suc n) a zero l = (a, (IsGcd-from_zero a 0 refl, λ k. scaled_end k a 0 refl))
gcd_exists (suc n) a (suc b) l =
    let m = mod_below a (suc b) (omega arith) in
    let r = gcd_exists n (suc b) (a % suc b) (omega arith) in
    (r.0, (IsGcd-from_mod a (suc b) r.0 r.1.0, λ k. scaled_step k a (suc b) (k * r.0) (r.1.1 k)))

-- The divisor of n times a and n times b is n times the one of a and b.
pub gcd_scaled : (a b g n : ℕ) → IsGcd a b g → IsGcd (n * a) (n * b) (n * g)
gcd_scaled a b g n is =
    let found = gcd_exists (suc b) a b (omega arith) in
    rw (same_from_IsGcd a b g found.0 is found.1.0) (found.1.1 n)
