use Rattle.drt_edf.specs.Answers.{IsEdfAnswer}
use Rattle.drt_edf.specs.declared.answer.EdfAnswer.TheVariants.{Done}
use Rattle.drt_command_edf.proofs.EdfLemmas.{done_decides}
use Rattle.drt_command_edf.proofs.command.decide.Goals as goal

pub returns-in-Ok-Done-clause-decides : goal.returns-in-Ok-Done-clause-decides
returns-in-Ok-Done-clause-decides g c =
    let budget = c.args.crew.now.effort.budget in
    let evidence = c.in-Ok-Done.evidence in
    let answer : IsEdfAnswer c.args.set.tasks budget (Done evidence) = rw (c.in-Ok-Done.field-0-is, c.of.ensures) at c.in-Ok-Done.ensures in
    done_decides c.args.bytes.now c.args.set budget evidence c.requires.accepted answer.0 answer.1 answer.2 c.make_report.result c.make_report.ensures.report
