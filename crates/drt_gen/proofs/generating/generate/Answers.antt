use Rattle.std.proofs.Common.{sym, subst}
use Rattle.drt_model.specs.Limits.{IsTaskSet}
use Rattle.drt_gen.specs.Generated.{generated}
use Rattle.drt_gen.proofs.Limits.{set_limits}
use Rattle.drt_gen.proofs.generating.generate.Goals as goal

pub invariant_of-result : goal.invariant_of-result
invariant_of-result c = subst (IsTaskSet 1) (sym c.in_ok-tasks.ensures) (set_limits c.args.number)

pub returns : goal.returns
unfolding generated
returns c = λ i. record { version = 1; tasks = c.in_ok-tasks.ensures i }
