use Rattle.drt_busy.proofs.Decide.{parts_follow_walks}
use Rattle.drt_busy.proofs.walks.parts_follow_walks.Goals as goal

pub returns : goal.returns
returns c = parts_follow_walks
