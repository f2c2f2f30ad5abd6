-- A graph has one ratio.
use Rattle.std.proofs.Common.{◌≡◌, ℕ, suc, ◌*◌, ◌≤◌, List, [], ◌∷◌, All, refl, sym, ap, ◌∙◌, subst, arith, mul-le-mul_left}
use Rattle.std.specs.Int.{IsGcd, ◌∣◌}
use Rattle.std.proofs.Math.Nat.{dvd-mul_left, dvd-mul_right, le_of_mul-le-mul_left, le_antisymm}
use Rattle.std.proofs.lemmas.Nat.Gcd.{dvd_antisymm}
use Rattle.drt_num.proofs.Divisors.{gcd_scaled}
use Rattle.drt_model.specs.Digraph.{Digraph, IsSoundGraph}
use Rattle.drt_model.specs.Walk.{work, cycle_span}
use Rattle.drt_model.specs.Utilisation.{Fraction, HasRatio, BoundsCycles, IsRatio, AreRatios}
use Rattle.drt_ratio.proofs.Optima.{cycle_sums}

-- A ratio that a cycle has is at most a ratio that no cycle exceeds.
below : (g : Digraph) → IsSoundGraph g → (a b c d : ℕ) (cycle : List ℕ) → HasRatio g a b cycle → BoundsCycles g c d → a * d ≤ c * b
below g sound a b c d [] has least = rw has.0 (omega arith)
below g sound a b c d (v ∷ vs) has least =
    plain (work g (v ∷ vs)) (cycle_span g (v ∷ vs)) (cycle_sums g sound (v ∷ vs) has.0).span_some has.1 (least (v ∷ vs) has.0)
  where
    plain : (w s : ℕ) → 1 ≤ s → b * w ≡ a * s → d * w ≤ c * s → a * d ≤ c * b
    plain w s some is most =
        let x : b * (d * w) ≤ b * (c * s) = mul-le-mul_left b most in
        let y : d * (b * w) ≡ d * (a * s) = ap (λ n. d * n) is in
        let z : s * (a * d) ≤ s * (c * b) = omega arith in
        le_of_mul-le-mul_left z some

-- Of two equal fractions, the first in lowest terms, its denominator divides that of the other.
den_divides : (a b c d : ℕ) → IsGcd a b 1 → a * d ≡ c * b → b ∣ d
den_divides a b c d lowest e =
    let g : IsGcd (d * a) (d * b) (d * 1) = gcd_scaled a b 1 d lowest in
    let f : d * a ≡ c * b = omega arith in
    let one : d * 1 ≡ d = omega arith in
    subst (λ x. b ∣ x) one (g.2 b (rw f (dvd-mul_left b c)) (dvd-mul_left b d))

-- The numerator of one divides that of the other.
num_divides : (a b c d : ℕ) → IsGcd a b 1 → a * d ≡ c * b → a ∣ c
num_divides a b c d lowest e =
    let g : IsGcd (c * a) (c * b) (c * 1) = gcd_scaled a b 1 c lowest in
    let one : c * 1 ≡ c = omega arith in
    subst (λ x. a ∣ x) one (g.2 a (dvd-mul_left a c) (rw (← e) (dvd-mul_right a d)))

-- A graph has one ratio.
pub ratio_same : (g : Digraph) → IsSoundGraph g → (r s : Fraction) → IsRatio g r → IsRatio g s → r ≡ s
ratio_same g sound r s p q =
    let e : r.num * s.den ≡ s.num * r.den = le_antisymm (below g sound r.num r.den s.num s.den p.cycle p.has q.least) (below g sound s.num s.den r.num r.den q.cycle q.has p.least) in
    let num : r.num ≡ s.num = dvd_antisymm (num_divides r.num r.den s.num s.den p.lowest e) (num_divides s.num s.den r.num r.den q.lowest (sym e)) in
    let den : r.den ≡ s.den = dvd_antisymm (den_divides r.num r.den s.num s.den p.lowest e) (den_divides s.num s.den r.num r.den q.lowest (sym e)) in
    ap (λ n. record { num = n; den = r.den }) num ∙ ap (λ n. record { num = s.num; den = n }) den

-- Graphs have one list of ratios.
pub ratios_same : (gs : List Digraph) → All IsSoundGraph gs → (rs ss : List Fraction) → AreRatios gs rs → AreRatios gs ss → rs ≡ ss
ratios_same [] sound [] [] p q = refl
ratios_same [] sound [] (s ∷ ss) p q = absurd q
ratios_same [] sound (r ∷ rs) ss p q = absurd p
ratios_same (g ∷ gs) sound [] ss p q = absurd p
ratios_same (g ∷ gs) sound (r ∷ rs) [] p q = absurd q
ratios_same (g ∷ gs) sound (r ∷ rs) (s ∷ ss) p q =
    ap (λ x. x ∷ rs) (ratio_same g (sound 0 g (omega arith)) r s p.0 q.0) ∙ ap (λ xs. s ∷ xs) (ratios_same gs (λ i d l. sound (suc i) d (omega arith)) rs ss p.1 q.1)
