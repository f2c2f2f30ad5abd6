-- Cycles of a graph whose separations are a period or twice that.
use Rattle.std.proofs.Common.{◌≡◌, ◌⊎◌, inl, inr, ℕ, zero, suc, ◌+◌, ◌*◌, ◌%◌, ◌≤◌, Bool, true, false, cond, eqb, List, [], ◌∷◌, length, refl, sym, ap, subst, ◌∙◌, arith}
use Rattle.std.specs.Int.{◌∣◌, IsGcd}
use Rattle.std.proofs.Math.Nat.{dvd-mul_left, dvd-mul_right, one-dvd, mul-dvd-mul}
use Rattle.std.proofs.lemmas.Bool.{cases_eq, eqb-true}
use Rattle.std.proofs.lemmas.Nat.Gcd.{dvd_of_mod-eq-zero, dvd_trans}
use Rattle.drt_num.proofs.Divisors.{gcd_scaled}
use Rattle.drt_model.specs.Digraph.{Digraph, IsSoundGraph, vertex_count}
use Rattle.drt_model.specs.Walk.{gap, IsEdge, IsPath, last_of, work, span}
use Rattle.drt_model.specs.Utilisation.{Fraction, HasRatio, IsRatio}
use Rattle.drt_graph.proofs.Paths.{span_none, span_cons}
use Rattle.drt_ratio.proofs.Loops.{few_distinct, path_below}
use Rattle.drt_command_bench.specs.Scales.{most_drawn_scale}
use Rattle.drt_command_bench.proofs.SimpleCycles.{IsSimple, simple_of}

-- Each number up to 24 divides the least common multiple of them.
divide_all : ℕ → Bool
divide_all zero = true
divide_all (suc n) = cond (eqb (5354228880 % suc n) 0) (divide_all n) false

divides_below : (n k : ℕ) → divide_all n ≡ true → 1 ≤ k → k ≤ n → 5354228880 % k ≡ 0
unfolding divide_all
divides_below zero k all some within = absurd (omega (arith, some, within))
divides_below (suc n) k all some within = go (eqb (5354228880 % suc n) 0) refl (cases_eq k (suc n)) (λ rest less. divides_below n k rest some less)
  where
    go : (b : Bool) → eqb (5354228880 % suc n) 0 ≡ b → (k ≡ suc n) ⊎ (k ≡ suc n → ⊥) → (divide_all n ≡ true → k ≤ n → 5354228880 % k ≡ 0) → 5354228880 % k ≡ 0
    go false e same below = absurd (let f = rw e at all in cc)
    go true e (inl same) below = ap (λ j. 5354228880 % j) same ∙ eqb-true (5354228880 % suc n) 0 e
    go true e (inr differ) below = below (rw e at all) (omega (arith, within, differ))

all_divide : divide_all 24 ≡ true
unfolding divide_all
all_divide = refl

-- A fraction in lowest terms that is w / s has a denominator that divides s.
den_divides : (a b w s : ℕ) → IsGcd a b 1 → b * w ≡ a * s → b ∣ s
den_divides a b w s lowest e =
    let g : IsGcd (s * a) (s * b) (s * 1) = gcd_scaled a b 1 s lowest in
    let f : s * a ≡ b * w = omega (arith, e) in
    let one : s * 1 ≡ s = omega arith in
    subst (λ x. b ∣ x) one (g.2 b (rw f (dvd-mul_right b w)) (dvd-mul_left b s))

module _ (g : Digraph) (p : ℕ) (seps : (u v : ℕ) → IsEdge g u v → (gap g u v ≡ p) ⊎ (gap g u v ≡ 2 * p)) where
  -- The separations of a walk are at least one period an edge, and at most two.
  pub periods_of : (u : ℕ) (vs : List ℕ) → IsPath g u vs → (k : ℕ) × (span g u vs ≡ k * p) × (length vs ≤ k) × (k ≤ 2 * length vs)
  periods_of u [] is = (0, rw span_none (omega arith), omega arith, omega arith)
  periods_of u (v ∷ vs) is =
      let (k, e, least, most) = periods_of v vs is.1 in
      elim (seps u v is.0) [
        | inl one ↦ (k + 1, rw span_cons (omega (arith, one, e)), omega (arith, least), omega (arith, most))
        | inr two ↦ (k + 2, rw span_cons (omega (arith, two, e)), omega (arith, least), omega (arith, most))
      ]

  -- So each denominator divides the multiple of 1 to 24, times that of the periods.
  module _ (sound : IsSoundGraph g) (few : vertex_count g ≤ 12) (period : p ∣ 1200) where
    of_simple : (a b : ℕ) → IsGcd a b 1 → (cycle : List ℕ) → IsSimple g a b cycle → b ∣ most_drawn_scale
    of_simple a b lowest [] simple = absurd simple.is
    of_simple a b lowest (v ∷ vs) simple =
        let (k, e, least, most) = periods_of (last_of v vs) (v ∷ vs) simple.is in
        let size = few_distinct (v ∷ vs) (vertex_count g) simple.distinct (λ j l. path_below g sound (last_of v vs) (v ∷ vs) simple.is j l) in
        let divides : k ∣ 5354228880 = dvd_of_mod-eq-zero k (divides_below 24 k all_divide (omega (arith, least)) (omega (arith, most, size, few))) in
        let time : b ∣ k * p = subst (λ s. b ∣ s) e (den_divides a b (work g (v ∷ vs)) (span g (last_of v vs) (v ∷ vs)) lowest simple.has) in
        dvd_trans b time (mul-dvd-mul k p divides period)

    pub den_of : (r : Fraction) → IsRatio g r → r.den ∣ most_drawn_scale
    den_of r is = go is.cycle is.has
      where
        go : (cycle : List ℕ) → HasRatio g r.num r.den cycle → r.den ∣ most_drawn_scale
        go [] has = subst (λ d. d ∣ most_drawn_scale) (sym has.1) (one-dvd most_drawn_scale)
        go (v ∷ vs) has =
            let (cycle, simple) = simple_of g r.num r.den is.least v vs has.0 has.1 in
            of_simple r.num r.den is.lowest cycle simple
