-- Places of times: they ascend with the times, and they stay in the drawing area.
use Rattle.std.proofs.Common.{ℕ, ◌+◌, ◌*◌, ◌/◌, ◌≤◌, ◌≡◌, Bool, true, false, cond, List, [], ◌∷◌, length, max, refl, arith, lit≤}
use Rattle.std.specs.Prelude.{nat_le}
use Rattle.std.specs.List.{sum_by}
use Rattle.std.proofs.Math.Nat.{div-mul-le_self, div-le_of_le-mul, mul-le-mul_right}
use Rattle.std.proofs.lemmas.Nat.{le-div}
use Rattle.std.proofs.lemmas.Bool.{leb-true, le-leb}
use Rattle.std.proofs.lemmas.List.Sums.{sum_by-cons, count_by-le-length}
use Rattle.drt_picture.specs.declared.scale.Part.{Part}
use Rattle.drt_picture.specs.declared.scale.Scale.{Scale}
use Rattle.drt_picture.specs.Scale.{IsPageScale, begun_by, cut_room, shown_before, ticks_before, x_of}

ticks_rise : (p : Part) (a b : ℕ) → a ≤ b → ticks_before a p ≤ ticks_before b p
ticks_rise p a b h = omega arith

-- A sum of larger terms is larger.
sum_by_rise : {X : Type 0} (f g : X → ℕ) → ((x : X) → f x ≤ g x) → (xs : List X) → sum_by f xs ≤ sum_by g xs
sum_by_rise f g h [] = lit≤ tt
sum_by_rise f g h (x ∷ xs) = omega (arith, sum_by-cons f x xs, sum_by-cons g x xs, h x, sum_by_rise f g h xs)

-- The later the time, the more ticks are shown before it.
pub shown_rise : (parts : List Part) (a b : ℕ) → a ≤ b → shown_before parts a ≤ shown_before parts b
shown_rise parts a b h = sum_by_rise (ticks_before a) (ticks_before b) (λ p. ticks_rise p a b h) parts

test_rise : (n a b : ℕ) → a ≤ b → cond (nat_le n a) 1 0 ≤ cond (nat_le n b) 1 0
test_rise n a b h = go (nat_le n a) (nat_le n b) refl refl
  where
    go : (x y : Bool) → nat_le n a ≡ x → nat_le n b ≡ y → cond x 1 0 ≤ cond y 1 0
    go false y e f = omega arith
    go true true e f = lit≤ tt
    go true false e f = (let late : nat_le n b ≡ true = le-leb n b (omega (arith, leb-true n a e)) in absurd (cc))

-- The later the time, the more parts begin by then.
pub begun_rise : (parts : List Part) (a b : ℕ) → a ≤ b → begun_by parts a ≤ begun_by parts b
begun_rise parts a b h = sum_by_rise (λ p. cond (nat_le p.start a) 1 0) (λ p. cond (nat_le p.start b) 1 0) (λ p. test_rise p.start a b h) parts

div_rise : (m n k : ℕ) → m ≤ n → m / max k 1 ≤ n / max k 1
div_rise m n k h =
    let below = div-mul-le_self m (max k 1) in
    le-div (m / max k 1) n (max k 1) (omega arith) (omega (arith, below))

-- The later the time, the further to the right its place.
pub x_rise : (s : Scale) (a b : ℕ) → a ≤ b → x_of s a ≤ x_of s b
x_rise s a b h =
    let begun = begun_rise s.parts a b h in
    let shown = div_rise (shown_before s.parts a * cut_room s.width s.parts) (shown_before s.parts b * cut_room s.width s.parts) (shown_before s.parts s.until)
    (mul-le-mul_right (cut_room s.width s.parts) (shown_rise s.parts a b h)) in
    omega (arith, begun, shown)

-- No place is left of the drawing area.
pub x_left : (s : Scale) (time : ℕ) → s.left ≤ x_of s time
x_left s time = omega arith

-- No place is right of the drawing area.
pub x_right : (s : Scale) (time : ℕ) → IsPageScale s → time ≤ s.until → x_of s time ≤ s.left + s.width
x_right s time scale h =
    let r = cut_room s.width s.parts in
    let all = shown_before s.parts s.until in
    let shown : shown_before s.parts time ≤ max all 1 = omega (arith, shown_rise s.parts time s.until h) in
    let ticks : shown_before s.parts time * r / max all 1 ≤ r = div-le_of_le-mul (max all 1) (mul-le-mul_right r shown) in
    let begun : begun_by s.parts time ≤ length s.parts = count_by-le-length (λ p. nat_le p.start time) s.parts in
    omega (arith, ticks, begun, scale.few, scale.wide)
