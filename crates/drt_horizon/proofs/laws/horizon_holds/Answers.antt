use Rattle.drt_horizon.proofs.Horizons.{horizon_holds}
use Rattle.drt_horizon.proofs.laws.horizon_holds.Goals as goal

pub returns : goal.returns
returns c = horizon_holds
