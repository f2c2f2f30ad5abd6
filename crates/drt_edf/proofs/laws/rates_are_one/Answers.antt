use Rattle.drt_edf.proofs.Unique.{rates_same}
use Rattle.drt_edf.proofs.laws.rates_are_one.Goals as goal

pub returns : goal.returns
returns c = rates_same
