use Rattle.drt_check.proofs.Bounds.{claims_small, not_fine}
use Rattle.drt_check.proofs.utilisation.fine_scale.Goals as goal

pub scale-requires : goal.scale-requires
scale-requires c = claims_small c.args.ratios.now c.requires.in_range

pub unreachable-requires : goal.unreachable-requires
unreachable-requires c = absurd (not_fine c.args.ratios.now c.in-None.ensures c.requires.fine)
