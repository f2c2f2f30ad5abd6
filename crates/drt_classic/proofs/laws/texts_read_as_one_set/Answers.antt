use Rattle.drt_classic.proofs.Whole.{one_set}
use Rattle.drt_classic.proofs.laws.texts_read_as_one_set.Goals as goal

pub returns : goal.returns
returns c = one_set
