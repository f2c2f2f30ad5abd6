use Rattle.drt_sp.proofs.LongerRuns.{search_longer}
use Rattle.drt_sp.proofs.laws.searches_go_on.Goals as goal

pub returns : goal.returns
returns c = search_longer c.over_every_interleaving.ensures.facts
