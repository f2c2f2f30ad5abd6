use Rattle.drt_file.proofs.Exact.{faultless}
use Rattle.drt_file.proofs.laws.faultless_texts_read.Goals as goal

pub returns : goal.returns
returns c = faultless
