use Rattle.drt_busy.proofs.Response.{cuts_are_releases as law}
use Rattle.drt_busy.proofs.responses.cuts_are_releases.Goals as goal

pub returns : goal.returns
returns c = law
