use Rattle.std.proofs.Common.{arith, refl, subst, sym}
use Rattle.std.specs.Int.{IsGcd}
use Rattle.drt_rates.specs.declared.ratio_claim.RatioClaim.{RatioClaim}
use Rattle.drt_check.proofs.Lists.{all_more}
use Rattle.drt_check.proofs.claimed.are_lowest.Goals as goal

pub returns-then-not-is_lowest : goal.returns-then-not-is_lowest
returns-then-not-is_lowest c = (
  λ h. absurd (cc),
  λ all. (let p = c.is_lowest.ensures.1 (subst (λ (x : RatioClaim). IsGcd x.num x.den 1) (sym c.claim-item.is) (all c.ratios.claim-index c.claim-item.result (omega arith))) in absurd (cc)),
)

pub ratios-preserved : goal.ratios-preserved
ratios-preserved c =
    all_more (λ x. IsGcd x.num x.den 1) c.args.ratios.now c.ratios.claim-index c.claim-item.result (omega arith) c.claim-item.is (c.is_lowest.ensures.0 (cc)) c.ratios.invariant

pub returns : goal.returns
returns c = (λ h k d l. c.ratios.invariant k d (omega arith), λ all. refl)
