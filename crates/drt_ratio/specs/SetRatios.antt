-- The ratios of a set, as its claims have them.
use Rattle.std.specs.Prelude.{◌≡◌, ℕ, ◌*◌, ◌≤◌, List, All}
use Rattle.drt_model.specs.Each.{Each}
use Rattle.std.specs.Int.{IsGcd}
use Rattle.drt_model.specs.Digraph.{Digraph}
use Rattle.drt_model.specs.Utilisation.{Fraction, AreRatios, IsScale, rate}
use Rattle.drt_rates.specs.declared.ratio_claim.RatioClaim.{RatioClaim}
use Rattle.drt_rates.specs.RatioClaims.{fraction_of, fractions}
use Rattle.drt_rates.specs.Rates.{IsSmallRatio}
use Rattle.drt_ratio.specs.Claims.{IsRatioProof}
use Rattle.drt_model.specs.Numbers.{most_scale}

-- Each numerator is at most 1,000,000,000, and each denominator is 1 to 1,000,000,000.
abbrev pub AreSmall : List RatioClaim → Type 0
AreSmall claims = All (λ c. IsSmallRatio (fraction_of c)) claims

-- The fraction a / b is the rate of the ratios over their scale, in lowest terms, where the scale is at most 2^60.
abbrev pub IsRatioSum : List Fraction → ℕ → ℕ → Type 0
IsRatioSum ratios a b = (scale : ℕ) × IsScale ratios scale × (scale ≤ most_scale) × (a * scale ≡ rate scale ratios * b) × IsGcd a b 1 × (1 ≤ b)

-- Each claim is the ratio of its graph with its evidence, in order.
abbrev pub AreRatioProofs : List Digraph → List RatioClaim → Type 0
AreRatioProofs graphs proofs = Each (λ g p. IsRatioProof g p.num p.den p.cycle p.potentials) graphs proofs

-- Where each claim is the ratio of its graph with its evidence, the claims' fractions are the ratios of the graphs.
abbrev pub ProofsGiveRatios : Type 0
ProofsGiveRatios = (graphs : List Digraph) (proofs : List RatioClaim) → AreRatioProofs graphs proofs → AreRatios graphs (fractions proofs)
