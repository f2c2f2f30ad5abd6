use Rattle.drt_classic.proofs.KeepLimits.{set_is, set_constrained}
use Rattle.drt_classic.proofs.digraphs.to_digraphs.Goals as goal

pub invariant_of-result : goal.invariant_of-result
invariant_of-result c = rw (c.in_ok-tasks.ensures, c.tasks.ensures.tasks) (set_is c.args.set.now c.tasks.ensures.limits)

pub returns-clause-constrained : goal.returns-clause-constrained
returns-clause-constrained c = rw (c.in_ok-tasks.ensures, c.tasks.ensures.tasks) (set_constrained c.args.set.now c.tasks.ensures.limits)
