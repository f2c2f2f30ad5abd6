use Rattle.drt_horizon.proofs.Overloads.{overload_has_a_time}
use Rattle.drt_horizon.proofs.laws.overload_has_a_time.Goals as goal

pub returns : goal.returns
returns c = overload_has_a_time
