use Rattle.drt_priorities.proofs.Prioritised.{keep_limits}
use Rattle.drt_priorities.proofs.laws.priorities_keep_limits.Goals as goal

pub returns : goal.returns
returns c = keep_limits
