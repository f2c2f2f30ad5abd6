use Rattle.std.proofs.Common.{◌≤◌, ◌+◌, arith}
use Rattle.drt_model.specs.Numbers.{most_time}
use Rattle.drt_margin.specs.Margin.{wcet_at}
use Rattle.drt_margin.proofs.Rooms.{asked_subject, least_reached}
use Rattle.drt_margin.proofs.Verdicts.{yes_within}
use Rattle.drt_margin.proofs.halving.try_last.Goals as goal

pub unreachable-requires : goal.unreachable-requires
unreachable-requires g c =
    let q = c.args.question in
    let few : wcet_at c.args.set.tasks q.task q.vertex + c.args.high ≤ most_time = omega arith in
    let found = rw c.in-Yes.is at c.in_ok-set.ensures.finding in
    c.requires.least.past c.args.high (omega arith) (yes_within c.args.set q.task q.vertex (asked_subject c.args.set q c.requires.asked) q.policy c.args.high _ few found)

pub returns-in-Beyond-clause-last : goal.returns-in-Beyond-clause-last
returns-in-Beyond-clause-last g c =
    let q = c.args.question in
    let few : wcet_at c.args.set.tasks q.task q.vertex + c.args.high ≤ most_time = omega arith in
    let found = rw c.in-Beyond.is at c.in_ok-set.ensures.finding in
    record { edf = found.0; reached = least_reached c.args.set q.policy q.task q.vertex c.args.high c.requires.least few; out_of_reach = found.1 }

pub returns-in-Undecided-clause-last : goal.returns-in-Undecided-clause-last
returns-in-Undecided-clause-last g c =
    let q = c.args.question in
    let few : wcet_at c.args.set.tasks q.task q.vertex + c.args.high ≤ most_time = omega arith in
    let found = rw c.in-Undecided.is at c.in_ok-set.ensures.finding in
    record { reached = least_reached c.args.set q.policy q.task q.vertex c.args.high c.requires.least few; spent = found }
