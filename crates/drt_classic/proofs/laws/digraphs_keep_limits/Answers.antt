use Rattle.drt_classic.proofs.KeepLimits.{digraphs_keep_limits}
use Rattle.drt_classic.proofs.laws.digraphs_keep_limits.Goals as goal

pub returns : goal.returns
returns c = digraphs_keep_limits
