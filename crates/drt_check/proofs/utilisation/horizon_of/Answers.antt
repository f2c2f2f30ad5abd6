use Rattle.std.proofs.Common.{arith}
use Rattle.drt_check.proofs.Bounds.{claims_rated, claims_small}
use Rattle.drt_check.proofs.Rows.{rate_below}
use Rattle.drt_check.proofs.utilisation.horizon_of.Goals as goal

pub rate-requires-clause-small : goal.rate-requires-clause-small
rate-requires-clause-small c = claims_small c.args.ratios.now c.requires.in_range

pub horizon-requires-clause-rated : goal.horizon-requires-clause-rated
horizon-requires-clause-rated c = claims_rated c.args.graphs.now c.args.ratios.now c.requires.given.per_graph c.requires.in_range

pub horizon-requires-clause-below : goal.horizon-requires-clause-below
horizon-requires-clause-below c =
    let below = rate_below c.args.ratios.now c.fine_scale-common.result c.fine_scale-common.ensures.scale c.requires.given.below in
    omega (arith, below, c.rate.ensures)
