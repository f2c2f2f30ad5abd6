use Rattle.std.proofs.Common.{refl}
use Rattle.drt_check.proofs.Bounds.{claims_small, not_fine}
use Rattle.drt_check.proofs.utilisation.is_fine.Goals as goal

pub scale-requires : goal.scale-requires
scale-requires c = claims_small c.args.ratios.now c.requires

pub returns-in-Some : goal.returns-in-Some
returns-in-Some c = (λ t. (c.in-Some.field-0, c.in-Some.ensures.0, c.in-Some.ensures.1), λ fine. refl)

pub returns-in-None : goal.returns-in-None
returns-in-None c = (λ t. absurd (cc), λ fine. absurd (not_fine c.args.ratios.now c.in-None.ensures fine))
