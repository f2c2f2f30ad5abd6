use Rattle.std.proofs.Common.{◌≡◌, ◌+◌, Bool, List, drop, max, ap, arith, ◌∙◌}
use Rattle.std.specs.Prelude.{nat_lt}
use Rattle.std.proofs.lemmas.Bool.{le-ltb, lt-ltb}
use Rattle.drt_model.specs.declared.tasks.Task.{Task}
use Rattle.drt_claims.specs.Searches.{lower_deadline}
use Rattle.drt_claims.specs.Trees.{latest_deadline}
use Rattle.drt_check_searches.proofs.Lowers.{lower_end, lower_more, lower_skip}
use Rattle.drt_check_searches.proofs.bounds.lower_deadline.Goals as goal

pub loop-task-preserved-then-task-priority : goal.loop-task-preserved-then-task-priority
loop-task-preserved-then-task-priority c =
    let tasks : List Task = c.args.tasks.now in
    let i = c.loop-task.task-index in
    let p : Task → Bool = λ t. nat_lt c.args.priority t.priority in
    let skip = lower_skip p tasks i c.task-item.result c.loop-task-test.true c.task-item.is (le-ltb c.args.priority c.task-item.result.priority c.if-task-priority.true) in
    let before : max c.loop-task.greatest (lower_deadline (drop i tasks) c.args.priority) ≡ lower_deadline tasks c.args.priority = c.loop-task.invariant in
    let after : max c.loop-task.greatest (lower_deadline (drop (i + 1) tasks) c.args.priority) ≡ lower_deadline tasks c.args.priority = omega (arith, before, skip) in
    after

pub loop-task-preserved : goal.loop-task-preserved
loop-task-preserved c =
    let tasks : List Task = c.args.tasks.now in
    let i = c.loop-task.task-index in
    let p : Task → Bool = λ t. nat_lt c.args.priority t.priority in
    let more = lower_more p tasks i c.task-item.result c.loop-task-test.true c.task-item.is (lt-ltb c.args.priority c.task-item.result.priority (omega (arith, c.if-task-priority.false))) in
    let latest : c.latest_deadline.result ≡ latest_deadline c.task-item.result.vertices = c.latest_deadline.ensures ∙ ap latest_deadline c.as_slice.ensures in
    let before : max c.loop-task.greatest (lower_deadline (drop i tasks) c.args.priority) ≡ lower_deadline tasks c.args.priority = c.loop-task.invariant in
    let after : max c.larger-greatest.result (lower_deadline (drop (i + 1) tasks) c.args.priority) ≡ lower_deadline tasks c.args.priority
    = omega (arith, before, more, c.larger-greatest.ensures, latest) in
    after

pub returns : goal.returns
returns c =
    let tasks : List Task = c.args.tasks.now in
    let i = c.loop-task.task-index in
    let before : max c.loop-task.greatest (lower_deadline (drop i tasks) c.args.priority) ≡ lower_deadline tasks c.args.priority = c.loop-task.invariant in
    omega (arith, before, lower_end (λ t. nat_lt c.args.priority t.priority) tasks i c.loop-task-test.false)
