use Rattle.std.proofs.Common.{ap, set, ◌∙◌}
use Rattle.std.proofs.lemmas.List.{get_or_default}
use Rattle.drt_model.specs.declared.tasks.Task.{Task}
use Rattle.drt_busy.specs.Choice.{no_task}
use Rattle.drt_margin.specs.Margin.{timed_task, timed_tasks}
use Rattle.drt_margin.proofs.times.time_tasks.Goals as goal

pub returns : goal.returns
unfolding timed_tasks
returns c =
    let same = get_or_default c.args.tasks.now c.args.task c.index-tasks-task.result no_task c.requires.0 in
    ap (set c.args.tasks.now c.args.task) (c.time_task.ensures ∙ ap (λ (t : Task). timed_task t c.args.vertex c.args.wcet) same)
