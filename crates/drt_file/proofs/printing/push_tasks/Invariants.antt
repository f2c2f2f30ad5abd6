use Rattle.std.proofs.Common.{◌≡◌, ◌++◌, take}
use Rattle.std.specs.List.{flat_map}
use Rattle.drt_file.specs.trusted.Canonical.{written, task_lines}
use Rattle.drt_file.proofs.printing.push_tasks.Given as goal

abbrev pub invariant-loop-task : goal.invariant-loop-task
invariant-loop-task l = l.text.items ≡ l.initial.text.items ++ written (flat_map (task_lines l.version) (take l.task-index l.tasks))
