use Rattle.drt_edf.proofs.Unique.{horizon_same}
use Rattle.drt_edf.proofs.laws.horizon_is_one.Goals as goal

pub returns : goal.returns
returns c = horizon_same
