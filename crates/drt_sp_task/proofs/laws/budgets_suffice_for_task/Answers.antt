use Rattle.drt_sp_task.proofs.Enough.{suffice}
use Rattle.drt_sp_task.proofs.laws.budgets_suffice_for_task.Goals as goal

pub returns : goal.returns
returns c = suffice
