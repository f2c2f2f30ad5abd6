use Rattle.drt_busy.proofs.Decide.{deadlines_decide}
use Rattle.drt_busy.proofs.walks.deadlines_decide.Goals as goal

pub returns : goal.returns
returns c = deadlines_decide
