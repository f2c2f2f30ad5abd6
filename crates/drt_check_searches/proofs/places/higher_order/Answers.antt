use Rattle.std.proofs.Common.{ℕ, ap, arith, sym, take, ◌∙◌}
use Rattle.std.proofs.lemmas.List.{length-take-le}
use Rattle.drt_model.specs.declared.tasks.Task.{Task}
use Rattle.drt_claims.specs.Trees.{higher_count}
use Rattle.drt_check_states.specs.Places.{graphs_at}
use Rattle.drt_check_searches.proofs.Orders.{are_tasks, count_few, count_is, higher_graphs, order_long}
use Rattle.drt_check_searches.proofs.places.higher_order.Goals as goal

pub slice_bounds-result-end : goal.slice_bounds-result-end
slice_bounds-result-end c =
    let count = c.higher_count-count.ensures ∙ ap (λ (x : Task). higher_count c.tasks-tasks.result.now x.priority) (sym c.index-tasks-task.is) in
    let few =
    count_few c.args.set.now.tasks c.tasks-tasks.result.now c.args.task c.index-tasks-task.result c.tasks-tasks.ensures.tasks c.requires.task c.index-tasks-task.is
    c.higher_count-count.result count in
    sym (length-take-le c.higher_count-count.result c.args.order.now (omega (arith, few, order_long c.args.set.now.tasks c.args.order.now c.requires.order)))

pub returns-clause-tasks : goal.returns-clause-tasks
returns-clause-tasks c = are_tasks c.args.set.now.tasks c.args.order.now c.requires.order c.args.graphs.now c.higher_count-count.result c.requires.graphs

pub returns-clause-graphs : goal.returns-clause-graphs
returns-clause-graphs c = λ t at.
    let count = c.higher_count-count.ensures ∙ ap (λ (x : Task). higher_count c.tasks-tasks.result.now x.priority) (sym c.index-tasks-task.is) in
    let same = count_is c.args.set.now.tasks c.tasks-tasks.result.now c.args.task c.index-tasks-task.result c.tasks-tasks.ensures.tasks c.requires.task c.index-tasks-task.is
    c.higher_count-count.result t count at in
    ap (λ (n : ℕ). graphs_at c.args.graphs.now (take n c.args.order.now)) same
    ∙ higher_graphs c.args.set.now.tasks c.args.order.now c.args.graphs.now c.args.task t c.requires.order c.requires.graphs at
