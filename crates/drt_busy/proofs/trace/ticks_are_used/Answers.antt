use Rattle.drt_busy.proofs.Laws.{ticks_are_used}
use Rattle.drt_busy.proofs.trace.ticks_are_used.Goals as goal

pub returns : goal.returns
returns c = ticks_are_used
