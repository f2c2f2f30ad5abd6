use Rattle.drt_horizon.proofs.Overloads.{search_ends}
use Rattle.drt_horizon.proofs.laws.search_ends.Goals as goal

pub returns : goal.returns
returns c = search_ends
