use Rattle.drt_priorities.proofs.Prioritised.{keep_graphs}
use Rattle.drt_priorities.proofs.laws.priorities_keep_graphs.Goals as goal

pub returns : goal.returns
returns c = keep_graphs
