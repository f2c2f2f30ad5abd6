use Rattle.std.proofs.Common.{subst, arith}
use Rattle.drt_model.specs.Contents.{Contents}
use Rattle.drt_margin.specs.Answers.{IsOtherFor}
use Rattle.drt_margin.specs.Margin.{first}
use Rattle.drt_margin.proofs.Limits.{wcet_most}
use Rattle.drt_margin.proofs.Rooms.{none_more}
use Rattle.drt_margin.proofs.margins.margin.Goals as goal

pub returns-in-Other-clause-answer : goal.returns-in-Other-clause-answer
returns-in-Other-clause-answer g c =
    let other = rw c.in-Other.is at c.in_ok-set.ensures.finding in
    subst (λ (s : Contents). IsOtherFor c.args.question.policy s c.in-Other.evidence) (none_more c.args.set c.args.question.task c.args.question.vertex) other

pub returns-in-Beyond-clause-answer : goal.returns-in-Beyond-clause-answer
returns-in-Beyond-clause-answer g c =
    let found = rw c.in-Beyond.is at c.in_ok-set.ensures.finding in
    let few = wcet_most c.args.set.version c.args.set.tasks c.args.question.task c.args.question.vertex c.keep_limits.ensures c.requires.vertex.0 c.requires.vertex.1 in
    record { edf = found.0; reached = record { tried = first; limit = omega (arith, few.1) }; out_of_reach = found.1 }

pub returns-in-Undecided-clause-answer : goal.returns-in-Undecided-clause-answer
returns-in-Undecided-clause-answer g c =
    let found = rw c.in-Undecided.is at c.in_ok-set.ensures.finding in
    let few = wcet_most c.args.set.version c.args.set.tasks c.args.question.task c.args.question.vertex c.keep_limits.ensures c.requires.vertex.0 c.requires.vertex.1 in
    record { reached = record { tried = first; limit = omega (arith, few.1) }; spent = found }
