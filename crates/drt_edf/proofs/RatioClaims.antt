-- What is given for each graph keeps the rules of a claim and its ranges.
use Rattle.std.proofs.Common.{ℕ, zero, suc, ◌<◌, ◌≤◌, List, [], ◌∷◌, All, length, get_or, refl, arith}
use Rattle.std.specs.Prelude.{ℤ, pos, negsuc, ◌≤ℤ◌}
use Rattle.std.proofs.lemmas.List.{get_or_default}
use Rattle.std.proofs.lemmas.Int.{ints}
use Rattle.drt_model.specs.Digraph.{Digraph, IsSoundGraph, vertex_count}
use Rattle.drt_model.specs.Walk.{gap, IsPath, last_of}
use Rattle.drt_model.specs.Utilisation.{HasRatio, AreRatios, AreDistinct}
use Rattle.drt_graph.proofs.Edges.{target_of}
use Rattle.drt_rates.specs.declared.ratio_claim.RatioClaim.{RatioClaim}
use Rattle.drt_rates.specs.RatioClaims.{fractions, potentials}
use Rattle.drt_horizon.specs.Given.{IsRatioGiven, AreGiven}
use Rattle.drt_horizon.proofs.Overloads.{cycle_few}
use Rattle.drt_claims.specs.Claims.{AreLowest}
use Rattle.drt_claims.specs.Ranges.{IsNumber, IsInRangePotential, IsInRangeRatio}
use Rattle.drt_edf.specs.Plans.{ArePotentials}
use Rattle.drt_model.specs.Each.{Each}

-- What holds of the first and of the others holds of all.
pub all_cons : {X : Type 0} (P : X → Type 0) (x : X) (xs : List X) → P x → All P xs → All P (x ∷ xs)
all_cons P x xs one all zero d l = one
all_cons P x xs one all (suc k) d l = all k d (omega arith)

-- The first keeps what all keep.
pub head_of : {X : Type 0} (P : X → Type 0) (x : X) (xs : List X) → All P (x ∷ xs) → P x
head_of P x xs all = all 0 x (omega arith)

-- So do the others.
pub tail_of : {X : Type 0} (P : X → Type 0) (x : X) (xs : List X) → All P (x ∷ xs) → All P xs
tail_of P x xs all k d l = all (suc k) d (omega arith)

-- The claims are in lowest terms.
pub claims_lowest : (graphs : List Digraph) (proofs : List RatioClaim) → AreGiven graphs proofs → AreLowest proofs
claims_lowest [] [] given k d l = absurd (omega arith)
claims_lowest [] (p ∷ proofs) given k d l = absurd given
claims_lowest (g ∷ graphs) [] given k d l = absurd given
claims_lowest (g ∷ graphs) (p ∷ proofs) given zero d l = given.0.greatest.lowest
claims_lowest (g ∷ graphs) (p ∷ proofs) given (suc k) d l = claims_lowest graphs proofs given.1 k d (omega arith)

-- What holds of each graph and what is given for it holds of the claims.
pub each_given : (R : Digraph → RatioClaim → Type 0) → ((g : Digraph) (p : RatioClaim) → IsRatioGiven g p → R g p)
    → (graphs : List Digraph) (proofs : List RatioClaim) → AreGiven graphs proofs → Each R graphs proofs
each_given R f [] [] given = tt
each_given R f [] (p ∷ proofs) given = absurd given
each_given R f (g ∷ graphs) [] given = absurd given
each_given R f (g ∷ graphs) (p ∷ proofs) given = (f g p given.0, each_given R f graphs proofs given.1)

-- The potentials are the canonical ones.
pub potentials_are : (graphs : List Digraph) (proofs : List RatioClaim) → AreGiven graphs proofs → ArePotentials graphs (fractions proofs) (potentials proofs)
potentials_are [] [] given = refl
potentials_are [] (p ∷ proofs) given = absurd given
potentials_are (g ∷ graphs) [] given = absurd given
potentials_are (g ∷ graphs) (p ∷ proofs) given = (given.0.greatest.canonical, potentials_are graphs proofs given.1)

-- The fractions are the ratios of the graphs.
pub ratios_are : (graphs : List Digraph) (proofs : List RatioClaim) → AreGiven graphs proofs → AreRatios graphs (fractions proofs)
ratios_are [] [] given = tt
ratios_are [] (p ∷ proofs) given = absurd given
ratios_are (g ∷ graphs) [] given = absurd given
ratios_are (g ∷ graphs) (p ∷ proofs) given =
    (record { lowest = given.0.greatest.lowest; least = given.0.greatest.least; cycle = p.cycle; has = given.0.greatest.has }, ratios_are graphs proofs given.1)

path_each : (g : Digraph) → IsSoundGraph g → (u : ℕ) (vs : List ℕ) → IsPath g u vs → All (λ v. v < vertex_count g) vs
path_each g sound u [] path k d l = absurd (omega arith)
path_each g sound u (v ∷ vs) path zero d l = (target_of g sound u v (gap g u v) path.0).0
path_each g sound u (v ∷ vs) path (suc k) d l = path_each g sound v vs path.1 k d (omega arith)

cycle_numbers : (g : Digraph) (a b : ℕ) (cycle : List ℕ) → IsSoundGraph g → HasRatio g a b cycle → All IsNumber cycle
cycle_numbers g a b [] sound has k d l = absurd (omega arith)
cycle_numbers g a b (v ∷ vs) sound has k d l =
    let h = path_each g sound (last_of v vs) (v ∷ vs) has.0 k d l in
    omega (arith, h, sound.few)

cycle_counted : (g : Digraph) (p : RatioClaim) → IsSoundGraph g → IsRatioGiven g p → length p.cycle ≤ 96
cycle_counted g p sound given = go p.cycle given.greatest.has given.greatest.distinct
  where
    go : (cycle : List ℕ) → HasRatio g p.num p.den cycle → AreDistinct cycle → length cycle ≤ 96
    go [] has distinct = omega arith
    go (v ∷ vs) has distinct =
        let few = cycle_few g sound (v ∷ vs) has.0 distinct in
        omega (arith, few, sound.few)

low : (h : ℤ) → pos 0 ≤ℤ h → negsuc 9999999999999999 ≤ℤ h
low h l = omega (arith, ints)

potential_numbers : (g : Digraph) (p : RatioClaim) → IsRatioGiven g p → All IsInRangePotential p.potentials
potential_numbers g p given k d l =
    let e = get_or_default p.potentials k (pos 0) d l in
    let m : k < vertex_count g = omega (arith, l, given.keeps.counted) in
    rw (← e) (low (get_or p.potentials k (pos 0)) (given.reach.low k m), given.reach.high k m)

-- The numbers of a claim are in range.
pub claim_in_range : (g : Digraph) (p : RatioClaim) → IsSoundGraph g → IsRatioGiven g p → IsInRangeRatio p
claim_in_range g p sound given = record {
  num = omega (arith, given.reach.num);
  some = given.reach.some;
  den = omega (arith, given.reach.den);
  cycle = cycle_numbers g p.num p.den p.cycle sound given.greatest.has;
  cycle_counted = omega (arith, cycle_counted g p sound given);
  potentials = potential_numbers g p given;
  potentials_counted = omega (arith, given.keeps.counted, sound.few);
}

-- The numbers of the claims are in range.
pub claims_in_range : (graphs : List Digraph) (proofs : List RatioClaim) → All IsSoundGraph graphs → AreGiven graphs proofs → All IsInRangeRatio proofs
claims_in_range [] [] sound given = λ k d l. absurd (omega arith)
claims_in_range [] (p ∷ proofs) sound given = absurd given
claims_in_range (g ∷ graphs) [] sound given = absurd given
claims_in_range (g ∷ graphs) (p ∷ proofs) sound given =
    all_cons IsInRangeRatio p proofs (claim_in_range g p (head_of IsSoundGraph g graphs sound) given.0)
    (claims_in_range graphs proofs (tail_of IsSoundGraph g graphs sound) given.1)
