use Rattle.std.proofs.Common.{◌≡◌, ◌+◌, ◌<◌, ◌≤◌, List, length, drop, get_or, max, ap, arith, ◌∙◌}
use Rattle.drt_model.specs.declared.tasks.Task.{Task}
use Rattle.drt_claims.specs.Trees.{greatest_deadline, latest_deadline}
use Rattle.drt_check_trees.proofs.GreatestDeadline.{greatest_end, greatest_more, greatest_most, greatest_some}
use Rattle.drt_check_trees.proofs.deadlines.greatest_deadline.Goals as goal

pub loop-task-preserved : goal.loop-task-preserved
loop-task-preserved c =
    let tasks : List Task = c.args.set.now.tasks in
    let i = c.loop-task.task-index in
    let same = c.tasks-task-items.ensures.tasks in
    let l : i < length tasks = omega (arith, c.loop-task-test.true, ap length same) in
    let item : c.task-item.result ≡ get_or tasks i c.task-item.result = c.task-item.is ∙ ap (λ (ts : List Task). get_or ts i c.task-item.result) same in
    let latest : c.latest_deadline.result ≡ latest_deadline (get_or tasks i c.task-item.result).vertices
    = c.latest_deadline.ensures ∙ (ap latest_deadline c.as_slice.ensures ∙ ap (λ (t : Task). latest_deadline t.vertices) item) in
    let before : max c.loop-task.greatest (greatest_deadline (drop i tasks)) ≡ greatest_deadline tasks = c.loop-task.invariant in
    let more = greatest_more tasks i c.task-item.result l in
    let after : max c.larger-greatest.result (greatest_deadline (drop (i + 1) tasks)) ≡ greatest_deadline tasks = omega (arith, before, more, c.larger-greatest.ensures, latest) in
    after

pub returns-clause-value : goal.returns-clause-value
returns-clause-value c =
    let tasks : List Task = c.args.set.now.tasks in
    let i = c.loop-task.task-index in
    let before : max c.loop-task.greatest (greatest_deadline (drop i tasks)) ≡ greatest_deadline tasks = c.loop-task.invariant in
    let past : length tasks ≤ i = omega (arith, c.loop-task-test.false, ap length c.tasks-task-items.ensures.tasks) in
    omega (arith, before, greatest_end tasks i past)

pub returns-clause-some : goal.returns-clause-some
returns-clause-some c =
    let tasks : List Task = c.args.set.now.tasks in
    let i = c.loop-task.task-index in
    let before : max c.loop-task.greatest (greatest_deadline (drop i tasks)) ≡ greatest_deadline tasks = c.loop-task.invariant in
    let past : length tasks ≤ i = omega (arith, c.loop-task-test.false, ap length c.tasks-task-items.ensures.tasks) in
    omega (arith, before, greatest_end tasks i past, greatest_some c.args.set.now.version tasks c.tasks-task-items.ensures.limits)

pub returns-clause-most : goal.returns-clause-most
returns-clause-most c =
    let tasks : List Task = c.args.set.now.tasks in
    let i = c.loop-task.task-index in
    let before : max c.loop-task.greatest (greatest_deadline (drop i tasks)) ≡ greatest_deadline tasks = c.loop-task.invariant in
    let past : length tasks ≤ i = omega (arith, c.loop-task-test.false, ap length c.tasks-task-items.ensures.tasks) in
    omega (arith, before, greatest_end tasks i past, greatest_most c.args.set.now.version tasks c.tasks-task-items.ensures.limits.each)
