use Rattle.drt_claims.specs.Sorting.{sorted_places}
use Rattle.drt_check_states.proofs.Sums.{tails_rise}
use Rattle.drt_check_searches.proofs.passing.have_passing_states.Goals as goal

pub find_crests-requires : goal.find_crests-requires
find_crests-requires c = tails_rise (sorted_places c.args.set.now.tasks) c.args.tails.now c.requires.tails
