use Rattle.drt_states_laws.proofs.Descent.{states_pass}
use Rattle.drt_states_laws.proofs.laws.states_pass.Goals as goal

pub returns : goal.returns
returns c = states_pass
