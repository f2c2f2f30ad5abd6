use Rattle.drt_busy.proofs.Decide.{demand_misses}
use Rattle.drt_busy.proofs.walks.demand_misses.Goals as goal

pub returns : goal.returns
returns c = demand_misses
