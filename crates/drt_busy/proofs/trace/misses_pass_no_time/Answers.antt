use Rattle.drt_busy.proofs.Laws.{misses_pass_no_time}
use Rattle.drt_busy.proofs.trace.misses_pass_no_time.Goals as goal

pub returns : goal.returns
returns c = misses_pass_no_time
