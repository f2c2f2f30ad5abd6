use Rattle.std.proofs.Common.{◌≡◌, ◌+◌, ◌*◌, sym, ap, ◌∙◌, arith}
use Rattle.drt_gen.specs.Draws.{state_after}
use Rattle.drt_gen.specs.Generated.{generated}
use Rattle.drt_gen.proofs.Made.{tasks_more, tasks_to}
use Rattle.drt_gen.proofs.Shifts.{after_none, states}
use Rattle.drt_gen.proofs.generating.draw_tasks.Goals as goal

pub tasks-init : goal.tasks-init
tasks-init c = record { made = c.new-tasks.ensures.items; state = c.new-draws.ensures ∙ sym (after_none c.args.number) }

pub tasks-preserved : goal.tasks-preserved
tasks-preserved c =
    let x = c.args.number in
    let n = c.tasks.i in
    let was = c.tasks.invariant in
    record {
      made = c.in_ok-push.ensures.items ∙ tasks_more x n c.tasks.draws c.tasks.tasks.items c.in_ok-draw_task.field-0 was.made was.state c.in_ok-draw_task.ensures.task;
      state = c.in_ok-draw_task.ensures.state ∙ (ap (λ s. state_after s 61) was.state ∙ states x (61 * n) 61 (61 * (n + 1)) (omega arith));
    }

pub returns : goal.returns
unfolding generated
returns c =
    let all : c.tasks.i ≡ 12 = omega (arith, c.tasks-test.false, c.tasks.auto.i-end) in
    c.from_vec.ensures ∙ (c.tasks.invariant.made ∙ ap (tasks_to c.args.number) all)
