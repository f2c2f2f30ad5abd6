-- The responses of the vertices so far, and those that are found ahead.
use Rattle.drt_response.specs.Answers.{AreResponsesTo}
use Rattle.drt_response.specs.Subjects.{AreFound}
use Rattle.drt_response.proofs.by_states.respond_task.Given as goal

abbrev pub invariant-vertices : goal.invariant-vertices
invariant-vertices g l = AreResponsesTo l.given.set.now l.task l.vertex l.responses.items × AreFound l.given l.ahead.items
