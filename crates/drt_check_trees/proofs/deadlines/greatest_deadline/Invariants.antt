-- The greatest so far, and the greatest of the rest, give the greatest of all.
use Rattle.std.proofs.Common.{◌≡◌, drop, max}
use Rattle.drt_claims.specs.Trees.{greatest_deadline}
use Rattle.drt_check_trees.proofs.deadlines.greatest_deadline.Given as goal

abbrev pub invariant-loop-task : goal.invariant-loop-task
invariant-loop-task l = max l.greatest (greatest_deadline (drop l.task-index l.initial.set.tasks)) ≡ greatest_deadline l.initial.set.tasks
