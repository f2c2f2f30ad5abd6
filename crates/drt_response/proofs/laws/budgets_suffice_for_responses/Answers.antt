use Rattle.drt_response.proofs.Enough.{responses_suffice}
use Rattle.drt_response.proofs.laws.budgets_suffice_for_responses.Goals as goal

pub returns : goal.returns
returns c = responses_suffice c.budgets_suffice.ensures
