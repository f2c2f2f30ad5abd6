-- Each answer of the analysis says its verdict.
use Rattle.drt_edf.specs.Answers.{IsEdfAnswer}
use Rattle.drt_edf.specs.declared.answer.EdfAnswer.TheVariants.{Done, Beyond, Undecided}
use Rattle.drt_claims.specs.declared.evidence.Evidence.TheVariants.{EdfYes, EdfNo, UtilisationOne}
use Rattle.drt_horizon.specs.declared.answers.Beyond.TheVariants.{TooFar}
use Rattle.drt_command_bench.proofs.BenchLemmas.{far_says, no_says, one_says, undecided_says, yes_counts, yes_says}
use Rattle.drt_command_bench.proofs.command.decide_edf.Goals as goal

pub returns-in-Done-EdfYes-clause-says : goal.returns-in-Done-EdfYes-clause-says
returns-in-Done-EdfYes-clause-says g c =
    let answer : IsEdfAnswer c.args.set.now.tasks c.args.crew.now.effort.budget (Done (EdfYes c.in-Done-EdfYes.field-0-0 c.in-Done-EdfYes.fronts)) = rw
    (c.in-Done-EdfYes.is, c.in-Done-EdfYes.field-0-is) at c.in_ok-fronts.ensures in
    yes_says c.args.set.now.tasks c.requires.limits _ _ answer.0 answer.1

pub returns-in-Done-EdfYes-clause-counts : goal.returns-in-Done-EdfYes-clause-counts
returns-in-Done-EdfYes-clause-counts g c =
    let answer : IsEdfAnswer c.args.set.now.tasks c.args.crew.now.effort.budget (Done (EdfYes c.in-Done-EdfYes.field-0-0 c.in-Done-EdfYes.fronts)) = rw
    (c.in-Done-EdfYes.is, c.in-Done-EdfYes.field-0-is) at c.in_ok-fronts.ensures in
    λ e. rw (c.in_ok-count_labels-in-Done-EdfYes.ensures, c.as_slice.ensures) (yes_counts c.args.set.now.tasks _ _ answer.0)

pub returns-in-Done-EdfNo-clause-says : goal.returns-in-Done-EdfNo-clause-says
returns-in-Done-EdfNo-clause-says g c =
    let answer : IsEdfAnswer c.args.set.now.tasks c.args.crew.now.effort.budget (Done (EdfNo c.in-Done-EdfNo.field-0-0 c.in-Done-EdfNo.field-0-1)) = rw
    (c.in-Done-EdfNo.is, c.in-Done-EdfNo.field-0-is) at c.in_ok-fronts.ensures in
    rw c.without_fronts.ensures (no_says c.args.set.now.tasks c.requires.limits _ _ answer.0 answer.1)

pub returns-in-Done-UtilisationOne-clause-says : goal.returns-in-Done-UtilisationOne-clause-says
returns-in-Done-UtilisationOne-clause-says g c =
    let answer : IsEdfAnswer c.args.set.now.tasks c.args.crew.now.effort.budget (Done (UtilisationOne c.in-Done-UtilisationOne.field-0-0)) = rw
    (c.in-Done-UtilisationOne.is, c.in-Done-UtilisationOne.field-0-is) at c.in_ok-fronts.ensures in
    rw c.without_fronts-in-Done-UtilisationOne.ensures (one_says c.args.set.now.tasks c.requires.limits answer.1)

pub returns-in-Beyond-TooFar-clause-says : goal.returns-in-Beyond-TooFar-clause-says
returns-in-Beyond-TooFar-clause-says g c =
    let answer : IsEdfAnswer c.args.set.now.tasks c.args.crew.now.effort.budget (Beyond TooFar) = rw (c.in-Beyond-TooFar.is, c.in-Beyond-TooFar.field-0-is) at c.in_ok-fronts.ensures in
    rw c.without_fronts-in-Beyond-TooFar.ensures (far_says c.args.set.now.tasks c.requires.limits answer)

pub returns-clause-says : goal.returns-clause-says
returns-clause-says g c =
    let answer : IsEdfAnswer c.args.set.now.tasks c.args.crew.now.effort.budget (Undecided c.in-Undecided.trail) = rw c.in-Undecided.is at c.in_ok-fronts.ensures in
    rw c.without_fronts-in-Undecided.ensures (undecided_says c.args.set.now.tasks c.requires.limits c.in-Undecided.trail (rw c.requires.budget at answer))
