use Rattle.drt_file.specs.trusted.Canonical.{task_lines}
use Rattle.drt_file.proofs.Joins.{lines_more}
use Rattle.drt_file.proofs.printing.push_tasks.Goals as goal

pub loop-task-preserved : goal.loop-task-preserved
loop-task-preserved c =
    lines_more (task_lines c.args.version) c.args.text.now.items c.loop-task.text.items c.push_task.new.text.items c.args.tasks.now c.loop-task.task-index
    c.task-item.result c.loop-task-test.true c.task-item.is c.loop-task.invariant c.in_ok-push_task.ensures
