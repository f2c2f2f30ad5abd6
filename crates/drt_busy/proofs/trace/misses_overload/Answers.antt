use Rattle.drt_busy.proofs.Laws.{misses_overload}
use Rattle.drt_busy.proofs.trace.misses_overload.Goals as goal

pub returns : goal.returns
returns c = misses_overload
