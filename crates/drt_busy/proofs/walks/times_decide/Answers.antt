use Rattle.drt_busy.proofs.Decide.{times_decide}
use Rattle.drt_busy.proofs.walks.times_decide.Goals as goal

pub returns : goal.returns
returns c = times_decide
