use Rattle.drt_busy.proofs.Laws.{done_grows}
use Rattle.drt_busy.proofs.trace.done_grows.Goals as goal

pub returns : goal.returns
returns c = done_grows
