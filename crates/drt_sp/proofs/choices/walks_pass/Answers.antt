use Rattle.drt_sp.proofs.Responses.{walks_pass}
use Rattle.drt_sp.proofs.choices.walks_pass.Goals as goal

pub returns : goal.returns
returns c = walks_pass
