use Rattle.drt_sp.proofs.Enough.{suffice}
use Rattle.drt_sp.proofs.laws.budgets_suffice.Goals as goal

pub returns : goal.returns
returns c = suffice
