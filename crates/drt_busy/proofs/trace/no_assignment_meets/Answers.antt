use Rattle.drt_busy.proofs.Assignment.{no_assignment_meets}
use Rattle.drt_busy.proofs.trace.no_assignment_meets.Goals as goal

pub returns : goal.returns
returns c = no_assignment_meets
