use Rattle.std.proofs.Common.{arith}
use Rattle.drt_check.proofs.Rows.{near_fits}
use Rattle.drt_check.proofs.utilisation.is_horizon_near.Goals as goal

pub returns-then-bound-gt-GREATEST_HORIZON-clause-near : goal.returns-then-bound-gt-GREATEST_HORIZON-clause-near
returns-then-bound-gt-GREATEST_HORIZON-clause-near c = (
  λ t. absurd (cc),
  λ near. absurd (let fits = near_fits c.args.graphs.now c.args.ratios.now c.horizon_of-bound.result c.horizon_of-bound.ensures near in
      grind (arith, fits, c.if-bound-gt-GREATEST_HORIZON.true)),
)
