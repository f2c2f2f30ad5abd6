-- Those of higher priority so far.
use Rattle.std.proofs.Common.{◌≡◌}
use Rattle.drt_busy.specs.Choice.{task_at}
use Rattle.drt_fixed_task.specs.Higher.{higher_before}
use Rattle.drt_fixed_task.proofs.higher.higher_tasks.Given as goal

abbrev pub invariant-tasks : goal.invariant-tasks
invariant-tasks l = l.higher.items ≡ higher_before l.set.tasks (task_at l.set.tasks l.task).priority l.k
