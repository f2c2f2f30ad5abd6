use Rattle.drt_classic.proofs.Agree.{releases_agree}
use Rattle.drt_classic.proofs.laws.releases_agree.Goals as goal

pub returns : goal.returns
returns c = releases_agree
