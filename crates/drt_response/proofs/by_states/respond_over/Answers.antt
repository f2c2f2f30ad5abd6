-- The tails rise.
use Rattle.drt_response.proofs.Rises.{tails_rise}
use Rattle.drt_response.proofs.by_states.respond_over.Goals as goal

pub find_crests-requires : goal.find_crests-requires
find_crests-requires g c = tails_rise c.args.set.now.tasks c.args.tails.now c.requires.tails
