-- What `respond` found is what the report says.
use Rattle.drt_response.specs.Answers.{IsResponseAnswer}
use Rattle.drt_sp.specs.declared.answer.Answer.TheVariants.{Meets, Misses}
use Rattle.drt_command_response.proofs.ResponsePromises.{done_responds, missed_responds}
use Rattle.drt_command_response.proofs.command.answer.Goals as goal

pub returns-in-Ok-Meets-clause-responds : goal.returns-in-Ok-Meets-clause-responds
returns-in-Ok-Meets-clause-responds g c =
    let budget = c.args.crew.now.effort.budget in
    let responses = c.in-Ok-Meets.responses in
    let found : IsResponseAnswer c.args.set budget (Meets responses) = rw (c.in-Ok-Meets.field-0-is, c.of.ensures) at c.in-Ok-Meets.ensures in
    done_responds c.args.bytes.now c.args.set budget responses c.requires.accepted found
    c.print_responses.result (rw c.as_slice.ensures at c.print_responses.ensures.report)

pub returns-in-Ok-Misses-clause-responds : goal.returns-in-Ok-Misses-clause-responds
returns-in-Ok-Misses-clause-responds g c =
    let budget = c.args.crew.now.effort.budget in
    let evidence = c.in-Ok-Misses.evidence in
    let found : IsResponseAnswer c.args.set budget (Misses evidence) = rw (c.in-Ok-Misses.field-0-is, c.of.ensures) at c.in-Ok-Misses.ensures in
    missed_responds c.args.bytes.now c.args.set budget evidence c.requires.accepted found
    c.make_report.result c.make_report.ensures.report
