use Rattle.std.proofs.Common.{◌≡◌, List, ap, arith, get_or, length, sym, ◌∙◌}
use Rattle.drt_model.specs.declared.tasks.Task.{Task}
use Rattle.drt_claims.specs.Searches.{lower_deadline}
use Rattle.drt_check_searches.proofs.Orders.{bound_here, order_below, place_in}
use Rattle.drt_check_searches.proofs.places.bound_at.Goals as goal

pub bounds-tasks-order : goal.bounds-tasks-order
bounds-tasks-order c =
    let below = order_below c.args.set.now.tasks c.args.order.now c.requires.order c.args.place (place_in c.args.set.now.tasks c.args.order.now c.requires.order c.args.place c.requires.place) in
    omega (arith, below, ap length c.tasks-tasks.ensures.tasks)

pub bounds-tasks-order-2 : goal.bounds-tasks-order-2
bounds-tasks-order-2 c =
    let below = order_below c.args.set.now.tasks c.args.order.now c.requires.order c.args.place (place_in c.args.set.now.tasks c.args.order.now c.requires.order c.args.place c.requires.place) in
    omega (arith, below, ap length c.tasks-tasks.ensures.tasks)

pub returns : goal.returns
returns c =
    let t : Task = c.index-tasks-order.result in
    let k = get_or c.args.order.now c.args.place 0 in
    let at : t ≡ get_or c.args.set.now.tasks k t = c.index-tasks-order.is ∙ ap (λ (ts : List Task). get_or ts k t) c.tasks-tasks.ensures.tasks in
    let read = c.lower_deadline.ensures ∙ ap (λ (x : Task). lower_deadline c.tasks-tasks.result.now x.priority) (sym c.index-tasks-order.is) in
    read ∙ (ap (λ (ts : List Task). lower_deadline ts t.priority) c.tasks-tasks.ensures.tasks
    ∙ bound_here c.args.set.now.tasks c.args.order.now c.requires.order c.args.place t c.requires.place at)
