use Rattle.drt_busy.proofs.Decide.{requests_miss}
use Rattle.drt_busy.proofs.walks.requests_miss.Goals as goal

pub returns : goal.returns
returns c = requests_miss
