use Rattle.drt_assign.proofs.Needs.{assign_suffices}
use Rattle.drt_assign.proofs.laws.budgets_suffice_for_assign.Goals as goal

pub returns : goal.returns
returns c = assign_suffices c.budgets_suffice.ensures c.budgets_suffice_for_task.ensures
