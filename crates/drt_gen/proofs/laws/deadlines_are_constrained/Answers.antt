use Rattle.drt_gen.proofs.Limits.{set_constrained}
use Rattle.drt_gen.proofs.laws.deadlines_are_constrained.Goals as goal

pub returns : goal.returns
returns c = set_constrained
