-- The tasks so far are open, and as few.
use Rattle.std.proofs.Common.{◌≤◌, length}
use Rattle.drt_assign.specs.Steps.{AreOpen}
use Rattle.drt_assign.proofs.ahead.next_open.Given as goal

abbrev pub invariant-tasks : goal.invariant-tasks
invariant-tasks l = AreOpen l.ranks l.tasks.items × (length l.tasks.items ≤ l.most)
