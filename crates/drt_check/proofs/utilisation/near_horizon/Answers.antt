use Rattle.std.proofs.Common.{arith}
use Rattle.drt_check.proofs.Rows.{near_fits}
use Rattle.drt_check.proofs.utilisation.near_horizon.Goals as goal

pub overflow_cast-bound : goal.overflow_cast-bound
overflow_cast-bound c =
    let near = near_fits c.args.graphs.now c.args.ratios.now c.horizon_of-bound.result c.horizon_of-bound.ensures c.requires.near in
    omega (arith, near)
