-- The greatest so far, and the greatest of the rest, give the greatest of all.
use Rattle.std.proofs.Common.{◌≡◌, drop, max}
use Rattle.drt_claims.specs.Searches.{lower_deadline}
use Rattle.drt_check_searches.proofs.bounds.lower_deadline.Given as goal

abbrev pub invariant-loop-task : goal.invariant-loop-task
invariant-loop-task l = max l.greatest (lower_deadline (drop l.task-index l.tasks) l.priority) ≡ lower_deadline l.tasks l.priority
