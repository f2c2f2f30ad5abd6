use Rattle.drt_priorities.proofs.Prioritised.{keep_legality}
use Rattle.drt_priorities.proofs.laws.priorities_keep_legality.Goals as goal

pub returns : goal.returns
returns c = keep_legality
