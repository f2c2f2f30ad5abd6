use Rattle.std.proofs.Common.{refl}
use Rattle.drt_rows.proofs.worked.three_workers.Goals as goal

pub returns-clause-replies : goal.returns-clause-replies
returns-clause-replies c = refl

pub returns-clause-log : goal.returns-clause-log
returns-clause-log c = refl

pub returns-clause-dropped : goal.returns-clause-dropped
returns-clause-dropped c = refl

pub returns-clause-demand : goal.returns-clause-demand
returns-clause-demand c = refl
