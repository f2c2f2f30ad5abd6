-- The no of the analysis by trees is one.
use Rattle.drt_response.proofs.Refusals.{refusal_is}
use Rattle.drt_response.proofs.by_trees.respond_by_trees.Goals as goal

pub returns-in-Misses : goal.returns-in-Misses
returns-in-Misses g c = let said = rw c.in-Misses.is at c.in_ok-trees.ensures in refusal_is c.args.set.now c.in-Misses.evidence said.0 said.1
