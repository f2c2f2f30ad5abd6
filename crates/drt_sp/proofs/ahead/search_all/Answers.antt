-- The places are those of tasks, of which there are at most 32.
use Rattle.std.proofs.Common.{List, ℕ, arith}
use Rattle.drt_model.specs.declared.tasks.Task.{Task}
use Rattle.drt_sp.proofs.Orders.{order_count}
use Rattle.drt_sp.proofs.Yes.{few_tasks}
use Rattle.drt_sp.proofs.ahead.search_all.Goals as goal

pub look_ahead-requires-clause-accepts : goal.look_ahead-requires-clause-accepts
look_ahead-requires-clause-accepts g c κs within i l =
    let set = c.args.given.now.set.now in
    let tasks : List Task = set.tasks in
    let order : List ℕ = c.args.given.now.order.now in
    let count = order_count tasks order c.requires.order in
    let few = few_tasks set.version tasks c.keep_limits.ensures.limits in (
      c.requires.order,
      omega (arith, l, c.requires.here),
      omega (arith, l, c.requires.here, count, few),
      c.requires.bound.0,
      c.requires.bound.1,
    )
