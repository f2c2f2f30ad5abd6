-- The tasks so far are copied.
use Rattle.std.proofs.Common.{◌≡◌, take}
use Rattle.drt_priorities.proofs.copying.copy_tasks.Given as goal

abbrev pub invariant-tasks : goal.invariant-tasks
invariant-tasks l = l.copies.items ≡ take l.k l.tasks
