use Rattle.std.proofs.Common.{arith}
use Rattle.drt_priorities.specs.Priorities.{prioritised}
use Rattle.drt_priorities.proofs.Prioritised.{length-prioritised}
use Rattle.drt_assign.proofs.Orders.{at_most_32}
use Rattle.drt_assign.proofs.ahead.look_further.Goals as goal

pub next_open-requires : goal.next_open-requires
next_open-requires g c =
    let old = c.args.course.now.old.now in
    let few = at_most_32 c.requires.course.version (prioritised c.args.set.now.tasks old) c.requires.course.limits in
    omega (arith, few, length-prioritised c.args.set.now.tasks old, c.requires.ranks.as_many)
