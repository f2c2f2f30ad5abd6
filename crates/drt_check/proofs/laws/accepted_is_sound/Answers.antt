use Rattle.drt_check.proofs.Sound.{accepted_is_sound}
use Rattle.drt_check.proofs.laws.accepted_is_sound.Goals as goal

pub returns : goal.returns
returns c = accepted_is_sound c.deadlines_decide.ensures c.times_decide.ensures c.states_pass.ensures
