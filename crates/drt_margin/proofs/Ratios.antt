-- Each graph has a ratio, and tasks have rates.
use Rattle.std.proofs.Common.{◌≡◌, ℕ, suc, ◌+◌, ◌*◌, ◌/◌, ◌≤◌, List, [], ◌∷◌, All, length, inl, inr, refl, arith}
use Rattle.std.specs.Int.{IsGcd}
use Rattle.std.proofs.Math.Nat.{le_of_mul-le-mul_left, mul-div_cancel'}
use Rattle.std.proofs.lemmas.Nat.Gcd.{IsGcd-from_zero, IsGcd-swap}
use Rattle.drt_num.proofs.CommonMultiples.{lcm_exists}
use Rattle.drt_num.proofs.Divisors.{gcd_exists, gcd_positive}
use Rattle.drt_num.proofs.Fractions.{lowest_terms, part_positive, same_value}
use Rattle.drt_model.specs.Digraph.{Digraph, IsSoundGraph, vertex_count}
use Rattle.drt_model.specs.Utilisation.{AreRatios, Fraction, IsRatio, IsScale}
use Rattle.drt_model.specs.Walk.{IsCycle, cycle_span, last_of, span, work}
use Rattle.drt_model.specs.declared.tasks.Task.{Task}
use Rattle.drt_graph.proofs.Paths.{path_cycle}
use Rattle.drt_graph.proofs.Scales.{scale_cons, scale_none}
use Rattle.drt_ratio.proofs.Loops.{path_below}
use Rattle.drt_ratio.proofs.Optima.{cycle_sums}
use Rattle.drt_claims.specs.Claims.{graphs_of}
use Rattle.drt_claims.specs.Rates.{Rates}
use Rattle.drt_margin.proofs.Candidates.{HasBest, IsGrown, IsNoGreater, best_grown}
use Rattle.drt_margin.proofs.Closed.{IsClosedPath, all_closed}

-- A ratio with a positive denominator.
record HasRatioOf (g : Digraph) : Type 0 where
  ratio : Fraction
  is : IsRatio g ratio
  some : 1 ≤ ratio.den

module _ (g : Digraph) (sound : IsSoundGraph g) where
  -- A closed path as a cycle.
  closed_cycle : (u : ℕ) (cs : List ℕ) → IsClosedPath g u cs → IsCycle g cs × (cycle_span g cs ≡ span g u cs)
  closed_cycle u [] is = absurd (omega (arith, is.some))
  closed_cycle u (v ∷ vs) is = path_cycle g u v vs is.path is.back

  -- And a cycle as one.
  cycle_closed : (v : ℕ) (vs : List ℕ) → IsCycle g (v ∷ vs) → IsClosedPath g (last_of v vs) (v ∷ vs)
  cycle_closed v vs is = record { some = omega arith; path = is; back = refl }

  -- A short closed path is one of the lists that were looked at.
  grown : (u : ℕ) (cs : List ℕ) → IsClosedPath g u cs → length cs ≤ vertex_count g → IsGrown (vertex_count g) [] (vertex_count g) cs
  grown u cs is l = (cs, refl, l, path_below g sound u cs is.path)

  -- There is no cycle.
  no_cycle : ((c : List ℕ) → IsGrown (vertex_count g) [] (vertex_count g) c → ¬ IsCycle g c) → HasRatioOf g
  no_cycle none = record {
    ratio = record { num = 0; den = 1 };
    is = record { lowest = IsGcd-swap 1 0 1 (IsGcd-from_zero 1 0 refl); least = λ c is. absurd (never c is); cycle = []; has = (refl, refl) };
    some = omega arith;
  }
    where
      never : (c : List ℕ) → IsCycle g c → ⊥
      never [] is = is
      never (v ∷ vs) is =
          all_closed g sound (λ w s. ⊥) (λ a b c d x y. x) (λ u cs p l. none cs (grown u cs p l) (closed_cycle u cs p).0) (last_of v vs) (v ∷ vs) (cycle_closed v vs is)

  -- The ratio of a cycle that no other exceeds, in lowest terms.
  ratio_at : (d : List ℕ) → IsCycle g d → ((c : List ℕ) → IsCycle g c → IsNoGreater g c d) → HasRatioOf g
  ratio_at [] is most = absurd is
  ratio_at (v ∷ vs) is most = go (gcd_exists (suc s) w s (omega arith))
    where
      w : ℕ
      w = work g (v ∷ vs)

      s : ℕ
      s = cycle_span g (v ∷ vs)

      bounded : (a b d wc sc : ℕ) → 1 ≤ d → d * a ≡ w → d * b ≡ s → wc * s ≤ w * sc → b * wc ≤ a * sc
      bounded a b d wc sc some e f l =
          let x : wc * (d * b) ≤ (d * a) * sc = rw (e, f) l in
          let y : d * (b * wc) ≤ d * (a * sc) = omega arith in
          le_of_mul-le-mul_left y some

      go : (d : ℕ) × (IsGcd w s d × ((k : ℕ) → IsGcd (k * w) (k * s) (k * d))) → HasRatioOf g
      go (d, (gcd, scaled)) =
          let sums = cycle_sums g sound (v ∷ vs) is in
          let pos = gcd_positive w s d sums.span_some gcd in
          let e = mul-div_cancel' d gcd.0 in
          let f = mul-div_cancel' d gcd.1 in
          record {
            ratio = record { num = w / d; den = s / d };
            is = record {
              lowest = lowest_terms w s d pos gcd;
              least = λ c of. bounded (w / d) (s / d) d (work g c) (cycle_span g c) pos e f (most c of);
              cycle = v ∷ vs;
              has = (is, (let same = same_value w s d gcd in omega arith), part_positive s w d sums.work_some (IsGcd-swap w s d gcd));
            };
            some = part_positive w s d sums.span_some gcd;
          }

  -- A cycle that none of the lists that were looked at exceeds is exceeded by none.
  a_cycle : (d : List ℕ) → IsCycle g d → ((c : List ℕ) → IsGrown (vertex_count g) [] (vertex_count g) c → IsCycle g c → IsNoGreater g c d) → HasRatioOf g
  a_cycle d is best = ratio_at d is all
    where
      sums : (a b c e : ℕ) → a * cycle_span g d ≤ work g d * b → c * cycle_span g d ≤ work g d * e → (a + c) * cycle_span g d ≤ work g d * (b + e)
      sums a b c e l m = omega arith

      short : (u : ℕ) (cs : List ℕ) → IsClosedPath g u cs → length cs ≤ vertex_count g → work g cs * cycle_span g d ≤ work g d * span g u cs
      short u cs p l = let r = closed_cycle u cs p in rw r.1 at (best cs (grown u cs p l) r.0)

      all : (c : List ℕ) → IsCycle g c → IsNoGreater g c d
      all [] of = absurd of
      all (v ∷ vs) of = all_closed g sound (λ w s. w * cycle_span g d ≤ work g d * s) sums short (last_of v vs) (v ∷ vs) (cycle_closed v vs of)

  has_ratio : HasRatioOf g
  has_ratio = go (best_grown g sound (vertex_count g) [])
    where
      go : HasBest g (IsGrown (vertex_count g) [] (vertex_count g)) → HasRatioOf g
      go (inl none) = no_cycle none
      go (inr (d, is, best)) = a_cycle d is best

-- Graphs have ratios, and these a scale.
record HaveRates (graphs : List Digraph) : Type 0 where
  ratios : List Fraction
  are : AreRatios graphs ratios
  scale : ℕ
  is_scale : IsScale ratios scale

have_rates : (graphs : List Digraph) → All IsSoundGraph graphs → HaveRates graphs
have_rates [] sound = record { ratios = []; are = tt; scale = 1; is_scale = scale_none }
have_rates (g ∷ graphs) sound =
    let rest = have_rates graphs (λ i d l. sound (suc i) d (omega arith)) in
    let r = has_ratio g (sound 0 g (omega arith)) in
    let lcm = lcm_exists rest.scale r.ratio.den r.some in
    record { ratios = r.ratio ∷ rest.ratios; are = (r.is, rest.are); scale = lcm.0; is_scale = scale_cons r.ratio rest.ratios rest.scale lcm.0 rest.is_scale r.some lcm.1 }

-- Tasks have rates.
pub rates_exist : (tasks : List Task) → All IsSoundGraph (graphs_of tasks) → Rates tasks
rates_exist tasks sound = let h = have_rates (graphs_of tasks) sound in record { ratios = h.ratios; are = h.are; scale = h.scale; is_scale = h.is_scale }
