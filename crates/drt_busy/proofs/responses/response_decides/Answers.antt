use Rattle.drt_busy.proofs.Response.{response_decides as law}
use Rattle.drt_busy.proofs.responses.response_decides.Goals as goal

pub returns : goal.returns
returns c = law
