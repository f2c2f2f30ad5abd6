use Rattle.drt_edf.specs.Answers.{IsEdfAnswer}
use Rattle.drt_edf.specs.declared.answer.EdfAnswer.TheVariants.{Done}
use Rattle.drt_model.specs.declared.jobs.Policy.TheVariants.{Edf}
use Rattle.drt_margin.proofs.asking.analyse_by_edf.Goals as goal

pub returns-in-Done : goal.returns-in-Done
returns-in-Done g c =
    let answer : IsEdfAnswer c.args.set.now.tasks c.args.crew.now.effort.budget (Done c.in-Done.evidence) = rw c.in-Done.is at c.in_ok-evidence.ensures in
    c.decided.ensures Edf c.args.set.now c.args.crew.now.effort.budget (answer.0, answer.1) answer.2
