-- Ratios, found or claimed, read as fractions and potentials.
use Rattle.std.specs.Prelude.{ℤ, List, map}
use Rattle.drt_model.specs.Utilisation.{Fraction}
use Rattle.drt_rates.specs.declared.ratio_claim.RatioClaim.{RatioClaim}

-- A claimed ratio as a fraction.
abbrev pub fraction_of : RatioClaim → Fraction
fraction_of c = record { num = c.num; den = c.den }

-- The claimed ratios as fractions.
abbrev pub fractions : List RatioClaim → List Fraction
fractions claims = map fraction_of claims

-- The claimed potentials.
abbrev pub potentials : List RatioClaim → List (List ℤ)
potentials claims = map (λ c. c.potentials) claims
