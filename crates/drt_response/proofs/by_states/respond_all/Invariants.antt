-- The responses of the vertices of the tasks so far, and those that are found ahead.
use Rattle.drt_response.specs.Answers.{AreResponsesTo}
use Rattle.drt_response.specs.Subjects.{AreFound}
use Rattle.drt_response.proofs.by_states.respond_all.Given as goal

abbrev pub invariant-tasks : goal.invariant-tasks
invariant-tasks g l = AreResponsesTo l.given.set.now l.task 0 l.responses.items × AreFound l.given l.ahead.items
