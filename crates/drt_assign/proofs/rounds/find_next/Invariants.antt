-- The open tasks so far are stuck, and what was found ahead is said of its tasks.
use Rattle.drt_priorities.specs.Priorities.{prioritised}
use Rattle.drt_assign.specs.Steps.{AreTrialsAhead}
use Rattle.drt_assign.proofs.Tried.{IsSoFar}
use Rattle.drt_assign.proofs.rounds.find_next.Given as goal

abbrev pub invariant-tasks : goal.invariant-tasks
invariant-tasks g l =
    IsSoFar (prioritised l.fn.set.tasks l.course.old.now) l.course.old.now l.standing.ranks.now l.standing.open_count l.k l.set l.stuck.items
    × AreTrialsAhead (prioritised l.fn.set.tasks l.course.old.now) l.standing.ranks.now l.standing.open_count l.course.crew.now.effort.budget l.ahead
