-- What `margin` found is what the report says.
use Rattle.std.proofs.Common.{IfOk, subst, sym}
use Rattle.drt_model.specs.Contents.{Contents}
use Rattle.drt_model.specs.declared.jobs.Policy.{Policy}
use Rattle.drt_command.specs.declared.report.Report.{Report}
use Rattle.drt_margin.specs.Answers.{IsMarginAnswer}
use Rattle.drt_command_margin.specs.Besides.{Besides, IsReportOf}
use Rattle.drt_command_margin.specs.Verdict.{Verdict}
use Rattle.drt_command_margin.proofs.MarginPromises.{made_of}
use Rattle.drt_command_margin.proofs.command.answer.Goals as goal

pub report_of-requires-clause-answer : goal.report_of-requires-clause-answer
report_of-requires-clause-answer g c =
    let s = c.args.spot in
    let budget = c.args.crew.now.effort.budget in
    (budget, subst (λ (x : Contents). IsMarginAnswer x s.policy s.task s.vertex budget c.in-Ok.answer) (sym c.in-Ok.ensures.same) c.in-Ok.ensures.answer)

pub returns-in-Ok-clause-makes : goal.returns-in-Ok-clause-makes
returns-in-Ok-clause-makes g c =
    let s = c.args.spot in
    let command = c.args.command.now in
    let budget = c.args.crew.now.effort.budget in
    let told = subst (λ (x : Contents). IfOk c.report_of.result (IsReportOf s.policy x s.task s.vertex c.in-Ok.answer)) c.in-Ok.ensures.same c.report_of.ensures.report in
    subst (λ (p : Policy). IfOk c.report_of.result (λ (m : Report). Verdict p command.task command.vertex c.args.bytes.now m × Besides p command.task command.vertex budget c.args.bytes.now m))
    c.requires.spot.policy
    (made_of s.policy command.task command.vertex c.args.bytes.now c.args.set s.task s.vertex budget c.requires.accepted c.requires.spot.named c.in-Ok.answer c.in-Ok.ensures.answer
    c.report_of.result told)
