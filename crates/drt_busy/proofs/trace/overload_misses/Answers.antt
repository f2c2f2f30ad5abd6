use Rattle.drt_busy.proofs.Laws.{overload_misses}
use Rattle.drt_busy.proofs.trace.overload_misses.Goals as goal

pub returns : goal.returns
returns c = overload_misses
