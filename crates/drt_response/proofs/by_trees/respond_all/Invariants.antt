-- The responses of the vertices of the tasks so far.
use Rattle.drt_response.specs.Answers.{AreResponsesTo}
use Rattle.drt_response.proofs.by_trees.respond_all.Given as goal

abbrev pub invariant-tasks : goal.invariant-tasks
invariant-tasks g l = AreResponsesTo l.set l.task 0 l.responses.items
