-- The utilisation of milder tasks is no greater.
use Rattle.std.proofs.Common.{◌≡◌, ℕ, suc, ◌+◌, ◌*◌, ◌/◌, ◌<◌, ◌≤◌, List, [], ◌∷◌, All, length, ◌⊎◌, inl, inr, refl, ap, arith, mul-le-mul_left}
use Rattle.std.specs.Int.{◌∣◌}
use Rattle.std.proofs.lemmas.Bool.{cases_lt}
use Rattle.std.proofs.Math.Nat.{le_of_mul-le-mul_left, mul-div_cancel'}
use Rattle.drt_model.specs.Digraph.{Digraph, IsSoundGraph}
use Rattle.drt_model.specs.Utilisation.{AreRatios, EachDivides, Fraction, HasRatio, IsRatio, rate}
use Rattle.drt_model.specs.Walk.{IsCycle, cycle_span, work}
use Rattle.drt_model.specs.declared.tasks.Task.{Task}
use Rattle.drt_busy.specs.Choice.{graph_at}
use Rattle.drt_claims.specs.Claims.{graphs_of}
use Rattle.drt_claims.specs.Rates.{Rates}
use Rattle.drt_ratio.proofs.Optima.{cycle_sums}
use Rattle.drt_margin.proofs.Milder.{AreMilder, IsMilder, path_same, span_same, work_less}

module _ (g h : Digraph) (m : IsMilder g h) where
  cycle_same : (cycle : List ℕ) → IsCycle g cycle → IsCycle h cycle
  cycle_same [] is = is
  cycle_same (v ∷ vs) is = path_same g h m _ (v ∷ vs) is

  cycle_span_same : (cycle : List ℕ) → cycle_span g cycle ≡ cycle_span h cycle
  cycle_span_same [] = refl
  cycle_span_same (v ∷ vs) = span_same g h m _ (v ∷ vs)

  -- The ratio of the milder graph is at most a ratio that no cycle of the other exceeds.
  ratio_less : IsSoundGraph g → (r s : Fraction) → IsRatio g r → IsRatio h s → r.num * s.den ≤ s.num * r.den
  ratio_less sound r s is of = go is.cycle is.has
    where
      go : (cycle : List ℕ) → HasRatio g r.num r.den cycle → r.num * s.den ≤ s.num * r.den
      go [] has = let z = has.0 in rw z (omega arith)
      go (v ∷ vs) has =
          plain (work g (v ∷ vs)) (work h (v ∷ vs)) (cycle_span g (v ∷ vs)) (cycle_span h (v ∷ vs)) (cycle_sums g sound (v ∷ vs) has.0).span_some (cycle_span_same (v ∷ vs))
          (work_less g h m (v ∷ vs)) has.1 (of.least (v ∷ vs) (cycle_same (v ∷ vs) has.0))
        where
          plain : (w x p q : ℕ) → 1 ≤ p → p ≡ q → w ≤ x → r.den * w ≡ r.num * p → s.den * x ≤ s.num * q → r.num * s.den ≤ s.num * r.den
          plain w x p q some e less this most =
              let a : s.den * w ≤ s.den * x = mul-le-mul_left s.den less in
              let b : r.den * (s.den * w) ≤ r.den * (s.num * p) = mul-le-mul_left r.den (rw e (omega arith)) in
              let c : s.den * (r.den * w) ≡ s.den * (r.num * p) = ap (λ n. s.den * n) this in
              let d : p * (r.num * s.den) ≤ p * (s.num * r.den) = omega arith in
              le_of_mul-le-mul_left d some

-- One part of the rates: of two fractions at their scales.
part_less : (a b c d x y : ℕ) → b ∣ x → d ∣ y → a * d ≤ c * b → a * (x / b) * y ≤ c * (y / d) * x
part_less a b c d x y e f less = go (x / b) (y / d) (mul-div_cancel' b e) (mul-div_cancel' d f)
  where
    go : (p q : ℕ) → b * p ≡ x → d * q ≡ y → a * p * y ≤ c * q * x
    go p q e f = rw (← e, ← f) (let l : p * q * (a * d) ≤ p * q * (c * b) = mul-le-mul_left (p * q) less in omega arith)

-- Each graph of the first list is milder than the one at its place in the second.
abbrev pub MilderEach : List Digraph → List Digraph → Type 0
MilderEach [] [] = Unit {0}
MilderEach [] (h ∷ hs) = ⊥
MilderEach (g ∷ gs) [] = ⊥
MilderEach (g ∷ gs) (h ∷ hs) = IsMilder g h × MilderEach gs hs

rates_less : (gs hs : List Digraph) (rs ss : List Fraction) (x y : ℕ) → MilderEach gs hs → All IsSoundGraph gs → AreRatios gs rs → AreRatios hs ss → EachDivides rs x
    → EachDivides ss y → rate x rs * y ≤ rate y ss * x
unfolding rate
rates_less [] [] [] [] x y m sound p q e f = omega arith
rates_less [] [] [] (s ∷ ss) x y m sound p q e f = absurd q
rates_less [] [] (r ∷ rs) ss x y m sound p q e f = absurd p
rates_less [] (h ∷ hs) rs ss x y m sound p q e f = absurd m
rates_less (g ∷ gs) [] rs ss x y m sound p q e f = absurd m
rates_less (g ∷ gs) (h ∷ hs) [] ss x y m sound p q e f = absurd p
rates_less (g ∷ gs) (h ∷ hs) (r ∷ rs) [] x y m sound p q e f = absurd q
rates_less (g ∷ gs) (h ∷ hs) (r ∷ rs) (s ∷ ss) x y m sound p q e f =
    let here = part_less r.num r.den s.num s.den x y e.0 f.0 (ratio_less g h m.0 (sound 0 g (omega arith)) r s p.0 q.0) in
    let rest = rates_less gs hs rs ss x y m.1 (λ i d l. sound (suc i) d (omega arith)) p.1 q.1 e.1 f.1 in
    sums (r.num * (x / r.den)) (rate x rs) (s.num * (y / s.den)) (rate y ss) here rest
  where
    sums : (a b c d : ℕ) → a * y ≤ c * x → b * y ≤ d * x → (a + b) * y ≤ (c + d) * x
    sums a b c d k l = omega arith

milder_each : (fast slow : List Task) → length fast ≡ length slow → ((i : ℕ) → IsMilder (graph_at fast i) (graph_at slow i)) → MilderEach (graphs_of fast) (graphs_of slow)
milder_each [] [] e each = tt
milder_each [] (t ∷ slow) e each = absurd (omega arith)
milder_each (s ∷ fast) [] e each = absurd (omega arith)
milder_each (s ∷ fast) (t ∷ slow) e each = (each 0, milder_each fast slow (omega arith) (λ i. each (suc i)))

-- The rate of milder tasks, at the scale of the others, is at most that of the others at its scale.
pub rate_less : (fast slow : List Task) → AreMilder fast slow → All IsSoundGraph (graphs_of fast) → (r : Rates fast) (s : Rates slow)
    → rate r.scale r.ratios * s.scale ≤ rate s.scale s.ratios * r.scale
rate_less fast slow m sound r s =
    rates_less (graphs_of fast) (graphs_of slow) r.ratios s.ratios r.scale s.scale (milder_each fast slow m.count m.graphs) sound r.are s.are r.is_scale.multiple s.is_scale.multiple

-- So the utilisation of milder tasks is below one where that of the others is.
pub below_less : (fast slow : List Task) → AreMilder fast slow → All IsSoundGraph (graphs_of fast) → (r : Rates fast) (s : Rates slow) → rate s.scale s.ratios < s.scale
    → rate r.scale r.ratios < r.scale
below_less fast slow m sound r s below = plain (rate r.scale r.ratios) r.scale (rate s.scale s.ratios) s.scale r.is_scale.some (rate_less fast slow m sound r s) below
  where
    plain : (a x b y : ℕ) → 1 ≤ x → a * y ≤ b * x → b < y → a < x
    plain a x b y some less below = go (cases_lt a x)
      where
        go : (a < x) ⊎ (x ≤ a) → a < x
        go (inl l) = l
        go (inr l) =
            let p : y * x ≤ y * a = mul-le-mul_left y l in
            let q : x * suc b ≤ x * y = mul-le-mul_left x below in
            absurd (omega arith)
