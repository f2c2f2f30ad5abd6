use Rattle.drt_priorities.proofs.Prioritised.{keep_constraints}
use Rattle.drt_priorities.proofs.laws.priorities_keep_constraints.Goals as goal

pub returns : goal.returns
returns c = keep_constraints
