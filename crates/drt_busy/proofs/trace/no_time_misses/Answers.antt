use Rattle.drt_busy.proofs.Laws.{no_time_misses}
use Rattle.drt_busy.proofs.trace.no_time_misses.Goals as goal

pub returns : goal.returns
returns c = no_time_misses
