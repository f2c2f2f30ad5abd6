-- Claims in range are within what the arithmetic of ratios needs.
use Rattle.std.proofs.Common.{◌≡◌, ℕ, ℤ, suc, pos, ◌≤◌, ◌<◌, ◌⊎◌, inl, inr, List, [], ◌∷◌, All, length, get_or, arith}
use Rattle.std.proofs.lemmas.Int.{ints}
use Rattle.std.proofs.lemmas.Bool.{cases_lt}
use Rattle.std.proofs.lemmas.List.{get_or_past}
use Rattle.drt_model.specs.Digraph.{Digraph}
use Rattle.drt_graph.specs.Potential.{potential_of}
use Rattle.drt_claims.specs.Claims.{IsFine}
use Rattle.drt_rates.specs.RatioClaims.{fraction_of, fractions}
use Rattle.drt_claims.specs.Ranges.{IsInRangePotential, IsInRangeRatio}
use Rattle.drt_rates.specs.declared.ratio_claim.RatioClaim.{RatioClaim}
use Rattle.drt_graph.proofs.Scales.{scale_same}
use Rattle.drt_rates.specs.Rates.{AreRated, IsSmallRatio, IsTooFine}

-- A potential is within 10^16 of 0, and so is what stands for one past the last.
pub in_reach : (hs : List ℤ) → All IsInRangePotential hs → (v : ℕ) → IsInRangePotential (potential_of hs v)
in_reach hs all v = go (cases_lt v (length hs))
  where
    go : (v < length hs) ⊎ (length hs ≤ v) → IsInRangePotential (get_or hs v (pos 0))
    go (inl l) = all v (pos 0) l
    go (inr l) =
        let e : get_or hs v (pos 0) ≡ pos 0 = get_or_past hs v (pos 0) l in
        rw e (omega (arith, ints), omega (arith, ints))

small : (c : RatioClaim) → IsInRangeRatio c → IsSmallRatio (fraction_of c)
small c is = record { num = is.num; some = is.some; den = is.den }

-- The ratios of claims in range are small.
pub claims_small : (claims : List RatioClaim) → All IsInRangeRatio claims → All (λ c. IsSmallRatio (fraction_of c)) claims
claims_small claims all k d l = small _ (all k d l)

-- And where there is one for each graph, their potentials are near 0.
pub claims_rated : (graphs : List Digraph) (claims : List RatioClaim) → length claims ≡ length graphs → All IsInRangeRatio claims → AreRated graphs claims
claims_rated [] [] count all = tt
claims_rated [] (c ∷ claims) count all = absurd (omega arith)
claims_rated (g ∷ graphs) [] count all = absurd (omega arith)
claims_rated (g ∷ graphs) (c ∷ claims) count all =
    let first : IsInRangeRatio c = all 0 c (omega arith) in
    ((small c first, λ v l. in_reach c.potentials first.potentials v), claims_rated graphs claims (omega arith) (λ k d l. all (suc k) d (omega arith)))

-- A scale above 2^60 is not also at most that.
pub not_fine : (claims : List RatioClaim) → IsTooFine (fractions claims) → IsFine claims → ⊥
not_fine claims far fine =
    let same = scale_same (fractions claims) far.0 fine.0 far.1 fine.1 in
    absurd (omega (arith, same, far.2, fine.2))
