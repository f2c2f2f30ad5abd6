use Rattle.drt_gen.proofs.Limits.{set_limits}
use Rattle.drt_gen.proofs.laws.sets_keep_limits.Goals as goal

pub returns : goal.returns
returns c = set_limits
