use Rattle.std.proofs.Common.{ℕ, ◌<◌, List, ap, arith, length, sym, ◌∙◌}
use Rattle.drt_model.specs.Digraph.{digraph_of}
use Rattle.drt_model.specs.Walk.{deadline}
use Rattle.drt_model.specs.declared.tasks.Task.{Task}
use Rattle.drt_check_searches.proofs.Eachs.{splits_by}
use Rattle.drt_check_searches.proofs.Orders.{some_at, task_same}
use Rattle.drt_check_searches.proofs.splits.has_dominated_splits.Goals as goal

pub returns : goal.returns
returns c =
    let tasks : List Task = c.args.set.now.tasks in
    let k : ℕ = c.args.search.now.task in
    let l : k < length tasks = omega (arith, c.if-search-tasks.false, ap length c.tasks-tasks.ensures.tasks) in
    let v : ℕ = c.args.search.now.vertex in (
      λ e t at.
          let same = task_same tasks c.tasks-tasks.result.now k c.index-tasks-search.result c.tasks-tasks.ensures.tasks l c.index-tasks-search.is t at in
          let d = c.numbers-deadline.ensures.deadline ∙ ap (λ (x : Task). deadline (digraph_of x) v) same in
          splits_by _ _ _ _ _ _ (c.higher_order-higher.ensures.graphs t at) d c.as_slice.ensures (c.have_dominated_children.ensures.0 e),
      λ has.
          let here = some_at tasks k l in
          let same = task_same tasks c.tasks-tasks.result.now k c.index-tasks-search.result c.tasks-tasks.ensures.tasks l c.index-tasks-search.is here.0 here.1 in
          let d = c.numbers-deadline.ensures.deadline ∙ ap (λ (x : Task). deadline (digraph_of x) v) same in
          c.have_dominated_children.ensures.1 (splits_by _ _ _ _ _ _ (sym (c.higher_order-higher.ensures.graphs here.0 here.1)) (sym d) (sym c.as_slice.ensures) (has here.0 here.1)),
    )
