use Rattle.drt_check.proofs.Bounds.{claims_small}
use Rattle.drt_check.proofs.Rows.{below_at}
use Rattle.drt_check.proofs.utilisation.is_below_one.Goals as goal

pub rate-requires-clause-small : goal.rate-requires-clause-small
rate-requires-clause-small c = claims_small c.args.ratios.now c.requires.in_range

pub returns : goal.returns
returns c = below_at c.args.ratios.now c.fine_scale-common.result c.rate.result c.fine_scale-common.ensures.scale c.rate.ensures
