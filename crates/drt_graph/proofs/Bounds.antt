-- Potentials along a walk, and what they bound.
use Rattle.std.proofs.Common.{◌≡◌, ℕ, ℤ, pos, negsuc, zero, suc, ◌+◌, ◌-◌, ◌*◌, ◌/◌, ◌<◌, ◌≤◌, List, [], ◌∷◌, ◌⊎◌, inl, inr, refl, arith, mul-le-mul_left, div-lt_iff_lt-mul}
use Rattle.std.specs.Prelude.{◌+ℤ◌, ◌-ℤ◌, ◌≤ℤ◌}
use Rattle.std.specs.Int.{◌∣◌, int_max}
use Rattle.std.proofs.Math.Nat.{mul-div_cancel'}
use Rattle.std.proofs.lemmas.Int.{ints, clamps}
use Rattle.std.proofs.lemmas.Bool.{cases_lt}
use Rattle.drt_model.specs.Digraph.{Digraph, IsSoundGraph, vertex_count}
use Rattle.drt_model.specs.Walk.{gap, wcet, deadline, IsEdge, IsPath, last_of, work, span}
use Rattle.drt_graph.specs.Potential.{potential_of}
use Rattle.drt_graph.specs.RatioRules.{FitPotentials}
use Rattle.drt_graph.proofs.Paths.{work_cons, span_cons, work_none, span_none, path_within}
use Rattle.drt_graph.specs.Horizon.{most_to, most_over, constant_of, above_zero}

at_most : (f : ℕ → ℤ) (n k : ℕ) → k ≤ n → f k ≤ℤ most_to f n
unfolding most_to
at_most f zero k l = let e : k ≡ 0 = omega arith in rw e (omega (arith, ints))
at_most f (suc n) k l = go (cases_lt k (suc n)) (λ m. at_most f n k m)
  where
    go : (k < suc n) ⊎ (suc n ≤ k) → (k ≤ n → f k ≤ℤ most_to f n) → f k ≤ℤ int_max (most_to f n) (f (suc n))
    go (inl m) ih = let h = ih (omega arith) in omega (arith, ints, clamps, h)
    go (inr m) ih = let e : k ≡ suc n = omega arith in rw e (omega (arith, ints, clamps))

-- The greatest is at least each.
pub most_at : (g : Digraph) (f : ℕ → ℤ) (v : ℕ) → v < vertex_count g → f v ≤ℤ most_over g f
most_at g f v l = at_most f (vertex_count g - 1) v (omega arith)

-- Along a walk the potentials rise by at least its gain.
pub rises : (g : Digraph) (a b : ℕ) (hs : List ℤ) → ((u v : ℕ) → IsEdge g u v → (pos (b * wcet g v) -ℤ pos (a * gap g u v)) ≤ℤ (potential_of hs v -ℤ potential_of hs u))
    → (u : ℕ) (vs : List ℕ) → IsPath g u vs → (pos (b * work g vs) -ℤ pos (a * span g u vs)) ≤ℤ (potential_of hs (last_of u vs) -ℤ potential_of hs u)
rises g a b hs fits u [] is = rw (work_none, span_none) (omega (arith, ints))
rises g a b hs fits u (v ∷ vs) is =
    let h = fits u v is.0 in
    let r = rises g a b hs fits v vs is.1 in
    rw (work_cons, span_cons) (omega (arith, ints, h, r))

-- The work of a walk is bounded by its last deadline.
pub work_is_bounded : (g : Digraph) → IsSoundGraph g → (a b : ℕ) (hs : List ℤ) → FitPotentials g a b hs → (u : ℕ) (vs : List ℕ) → u < vertex_count g → IsPath g u vs
    → pos (b * work g (u ∷ vs)) ≤ℤ (pos (a * (span g u vs + deadline g (last_of u vs))) +ℤ constant_of g a b hs)
work_is_bounded g sound a b hs fits u vs l is =
    let w = last_of u vs in
    let r = rises g a b hs (λ x y e. fits x y (gap g x y) e) u vs is in
    let first = most_at g (λ x. pos (b * wcet g x) -ℤ potential_of hs x) u l in
    let last = most_at g (λ x. potential_of hs x -ℤ pos (a * deadline g x)) (last_of u vs) (path_within g sound u vs l is) in
    rw work_cons (omega (arith, ints, r, first, last))

-- A bound with a constant that may be negative, without signs.
unsigned : (x y : ℕ) (k : ℤ) → pos x ≤ℤ (pos y +ℤ k) → x ≤ y + above_zero k
unsigned x y (pos n) l = omega (arith, ints)
unsigned x y (negsuc n) l = omega (arith, ints)

-- In plain numbers, of one task: q is the scale over b.
scaled : (scale a b q e d t k : ℕ) → b * q ≡ scale → b * e ≤ a * d + k → d ≤ t → scale * e ≤ a * q * t + k * q
scaled scale a b q e d t k s l m =
    let x = mul-le-mul_left q l in
    let y = mul-le-mul_left (a * q) m in
    rw (← s) (omega (arith, x, y))

-- At a scale, the work of a walk that is due by t is bounded by t and the constant.
pub scaled_work : (g : Digraph) (a b : ℕ) (hs : List ℤ) (scale t u : ℕ) (vs : List ℕ) → IsSoundGraph g → FitPotentials g a b hs → b ∣ scale → u < vertex_count g
    → IsPath g u vs → span g u vs + deadline g (last_of u vs) ≤ t → scale * work g (u ∷ vs) ≤ a * (scale / b) * t + above_zero (constant_of g a b hs) * (scale / b)
scaled_work g a b hs scale t u vs sound fits divides l is due =
    scaled scale a b (scale / b) (work g (u ∷ vs)) (span g u vs + deadline g (last_of u vs)) t (above_zero (constant_of g a b hs)) (mul-div_cancel' b divides)
    (unsigned _ _ (constant_of g a b hs) (work_is_bounded g sound a b hs fits u vs l is)) due

-- In plain numbers, of all tasks: n is the scale less the rate. Past the horizon the work has room.
pub beyond : (n rate extra t e : ℕ) → 0 < n → (extra - (rate + n)) / n < t → (rate + n) * e ≤ rate * t + extra → t < e → ⊥
beyond n rate extra t e some l h over =
    let x : extra - (rate + n) < t * n = (div-lt_iff_lt-mul some).0 l in
    let y : (rate + n) * suc t ≤ (rate + n) * e = mul-le-mul_left (rate + n) over in
    omega arith

-- The greatest of the first vertex alone.
pub most_start : (f : ℕ → ℤ) (z : ℤ) → z ≡ f 0 → z ≡ most_to f (1 - 1)
unfolding most_to
most_start f z e = e

-- The greatest with one more vertex.
pub most_more : (f : ℕ → ℤ) (v : ℕ) (z x : ℤ) → 1 ≤ v → z ≡ most_to f (v - 1) → x ≡ f v → int_max z x ≡ most_to f (v + 1 - 1)
unfolding most_to
most_more f zero z x l e q = absurd (omega arith)
most_more f (suc v) z x l e q =
    let a : suc v - 1 ≡ v = omega arith in
    let b : suc v + 1 - 1 ≡ suc v = omega arith in
    let e' : z ≡ most_to f v = rw a at e in
    rw (b, e', q) refl

-- A bound below both is below the larger.
pub max_low : {low : ℤ} (m x y : ℤ) → m ≡ int_max x y → low ≤ℤ x → low ≤ℤ y → low ≤ℤ m
max_low m x y e l k = omega (arith, ints, clamps, e, l, k)

-- A bound above both is above the larger.
pub max_high : {high : ℤ} (m x y : ℤ) → m ≡ int_max x y → x ≤ℤ high → y ≤ℤ high → m ≤ℤ high
max_high m x y e l k = omega (arith, ints, clamps, e, l, k)
