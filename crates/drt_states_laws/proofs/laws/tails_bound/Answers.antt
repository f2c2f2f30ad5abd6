use Rattle.drt_states_laws.proofs.Bound.{tails_bound}
use Rattle.drt_states_laws.proofs.laws.tails_bound.Goals as goal

pub returns : goal.returns
returns c = tails_bound
