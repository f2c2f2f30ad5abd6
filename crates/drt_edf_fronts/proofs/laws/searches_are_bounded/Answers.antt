use Rattle.drt_edf_fronts.proofs.Bounded.{every_search}
use Rattle.drt_edf_fronts.proofs.laws.searches_are_bounded.Goals as goal

pub returns : goal.returns
returns c = every_search c.over_every_interleaving.ensures.bounded c.over_every_interleaving.ensures.short c.over_every_interleaving.ensures.slots
