use Rattle.drt_busy.proofs.Laws.{least_misses}
use Rattle.drt_busy.proofs.trace.least_misses.Goals as goal

pub returns : goal.returns
returns c = least_misses
