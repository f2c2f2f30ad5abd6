use Rattle.drt_horizon.proofs.Walks.{demands_within}
use Rattle.drt_horizon.proofs.laws.demands_within.Goals as goal

pub returns : goal.returns
returns c = demands_within
