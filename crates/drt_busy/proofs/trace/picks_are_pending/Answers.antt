use Rattle.drt_busy.proofs.Laws.{picks_are_pending}
use Rattle.drt_busy.proofs.trace.picks_are_pending.Goals as goal

pub returns : goal.returns
returns c = picks_are_pending
