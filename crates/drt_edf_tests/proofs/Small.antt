-- Claims of small ratios, one after another.
use Rattle.std.proofs.Common.{◌≤◌, List, [], ◌∷◌, ◌++◌}
use Rattle.std.proofs.lemmas.List.Elements.{All-push}
use Rattle.drt_rates.specs.declared.ratio_claim.RatioClaim.{RatioClaim}
use Rattle.drt_rates.specs.RatioClaims.{fraction_of}
use Rattle.drt_rates.specs.Rates.{IsSmallRatio}
use Rattle.drt_ratio.specs.SetRatios.{AreSmall}

-- One more claim.
pub small_push : (proofs : List RatioClaim) (p : RatioClaim) → AreSmall proofs → p.num ≤ 1000000000 → 1 ≤ p.den → p.den ≤ 1000000000 → AreSmall (proofs ++ p ∷ [])
small_push proofs p are num some den = All-push (λ c. IsSmallRatio (fraction_of c)) proofs p are (record { num = num; some = some; den = den })
