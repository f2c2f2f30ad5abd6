use Rattle.drt_check.proofs.Naming.{least_named}
use Rattle.drt_model.specs.Schedulable.{jobs_of}
use Rattle.drt_check.proofs.releases.is_least_miss.Goals as goal

pub returns-then-not-is_named : goal.returns-then-not-is_named
returns-then-not-is_named c = (
  λ h. absurd (cc),
  λ is. (let named = c.is_named.ensures.1 (rw c.tasks.ensures.tasks (least_named c.args.policy (jobs_of c.args.set.now.tasks c.args.releases.now) c.args.miss is)) in absurd (cc)),
)
