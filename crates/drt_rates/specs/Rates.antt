-- The graphs of a set, with a ratio and potentials for each.
use Rattle.std.specs.Prelude.{ℕ, ◌<◌, ◌≤◌, List}
use Rattle.drt_model.specs.Each.{Each}
use Rattle.drt_model.specs.Digraph.{Digraph}
use Rattle.drt_model.specs.Utilisation.{Fraction, IsScale}
use Rattle.drt_graph.specs.Fits.{AreNear}
use Rattle.drt_model.specs.Numbers.{most_scale, most_term}
use Rattle.drt_rates.specs.declared.ratio_claim.RatioClaim.{RatioClaim}
use Rattle.drt_rates.specs.RatioClaims.{fraction_of}

-- The numerator is at most 1,000,000,000, and the denominator is 1 to 1,000,000,000.
pub record IsSmallRatio (r : Fraction) : Type 0 where
  pub num : r.num ≤ most_term
  pub some : 1 ≤ r.den
  pub den : r.den ≤ most_term

-- The scale of the ratios exceeds 2^60.
abbrev pub IsTooFine : List Fraction → Type 0
IsTooFine ratios = (scale : ℕ) × IsScale ratios scale × (most_scale < scale)

-- There is a claim for each graph, in order, whose fraction is small, and whose potentials are near 0.
abbrev pub AreRated : List Digraph → List RatioClaim → Type 0
AreRated graphs claims = Each (λ g c. IsSmallRatio (fraction_of c) × AreNear g c.potentials) graphs claims
