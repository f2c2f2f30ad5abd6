-- The claims that were taken are in lowest terms.
use Rattle.std.proofs.Common.{ℕ, ◌<◌, get_or}
use Rattle.std.specs.Int.{IsGcd}
use Rattle.drt_rates.specs.declared.ratio_claim.RatioClaim.{RatioClaim}
use Rattle.drt_check.proofs.claimed.are_lowest.Given as goal

abbrev pub invariant-ratios : goal.invariant-ratios
invariant-ratios l = (k : ℕ) (d : RatioClaim) → k < l.claim-index → IsGcd (get_or l.ratios k d).num (get_or l.ratios k d).den 1
