use Rattle.drt_classic.proofs.Whole.{faultless}
use Rattle.drt_classic.proofs.laws.faultless_texts_read.Goals as goal

pub returns : goal.returns
returns c = faultless
