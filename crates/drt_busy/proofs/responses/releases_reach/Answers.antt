use Rattle.drt_busy.proofs.Response.{releases_reach as law}
use Rattle.drt_busy.proofs.responses.releases_reach.Goals as goal

pub returns : goal.returns
returns c = law
