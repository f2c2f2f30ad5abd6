-- What `assign` found is what the report says.
use Rattle.drt_assign.specs.Assign.{IsAssigned}
use Rattle.drt_command_assign.proofs.AssignPromises.{made_by}
use Rattle.drt_command_assign.proofs.command.answer.Goals as goal

pub returns-in-Ok-clause-assigns : goal.returns-in-Ok-clause-assigns
returns-in-Ok-clause-assigns g c =
    let budget = c.args.crew.now.effort.budget in
    let found : IsAssigned c.args.set.now budget c.in-Ok.answer = rw c.of.ensures at c.in-Ok.ensures in
    made_by c.priorities_keep_limits.ensures c.args.bytes.now c.args.set.now budget c.requires.accepted c.in-Ok.answer found
    c.report_of.result c.report_of.ensures.report
