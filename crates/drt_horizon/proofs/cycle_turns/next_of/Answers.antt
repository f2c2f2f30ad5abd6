use Rattle.drt_horizon.proofs.Multiples.{next_multiple}
use Rattle.drt_horizon.proofs.cycle_turns.next_of.Goals as goal

pub returns-clause-next : goal.returns-clause-next
returns-clause-next c = next_multiple c.args.cycle_turn c.args.t c.requires.some
