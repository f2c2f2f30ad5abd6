use Rattle.drt_priorities.proofs.Prioritised.{undo}
use Rattle.drt_priorities.proofs.laws.priorities_undo.Goals as goal

pub returns : goal.returns
returns c = undo
