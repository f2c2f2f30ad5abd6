use Rattle.drt_check.proofs.Judged.{judged_once}
use Rattle.drt_check.proofs.laws.judged_once.Goals as goal

pub returns : goal.returns
returns c = judged_once
