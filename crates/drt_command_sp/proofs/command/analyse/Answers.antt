-- What the analysis found is what the report says.
use Rattle.drt_fixed.specs.Answers.{IsAnalysed}
use Rattle.drt_command_sp.proofs.SpPromises.{analysed}
use Rattle.drt_command_sp.proofs.command.analyse.Goals as goal

pub returns-in-Ok-clause-analyses : goal.returns-in-Ok-clause-analyses
returns-in-Ok-clause-analyses g c =
    let set = c.args.set in
    let budget = c.args.crew.now.effort.budget in
    let answer = c.in-Ok.answer in
    let found : IsAnalysed set budget answer = rw c.of.ensures at c.in-Ok.ensures in
    analysed c.args.bytes.now set budget answer.evidence answer.trail c.requires.accepted found.says found.in_range c.report_of.result c.report_of.ensures.report
