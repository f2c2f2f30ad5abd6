use Rattle.std.proofs.Common.{arith}
use Rattle.drt_margin.proofs.Rooms.{asked_subject, between_both, middle_reached, room_lowered, room_raised}
use Rattle.drt_margin.proofs.halving.narrow.Goals as goal

pub returns-in-Yes-clause-half : goal.returns-in-Yes-clause-half
returns-in-Yes-clause-half g c =
    let q = c.args.question in
    let s = asked_subject c.args.set q c.requires.asked in
    let yes = rw c.in-Yes.is at c.in_ok-set.ensures.finding in
    rw c.raise.ensures (
      room_raised c.args.set q.policy q.task q.vertex s c.args.room c.requires.room c.requires.wide c.in-Yes.evidence yes,
      omega
          (arith, between_both c.args.set q.policy q.task q.vertex s c.args.room c.requires.room c.requires.wide),
    )

pub returns-in-Other-clause-half : goal.returns-in-Other-clause-half
returns-in-Other-clause-half g c =
    let q = c.args.question in
    let s = asked_subject c.args.set q c.requires.asked in
    let other = rw c.in-Other.is at c.in_ok-set.ensures.finding in
    rw c.lower.ensures (
      room_lowered c.args.set q.policy q.task q.vertex s c.args.room c.requires.room c.requires.wide c.in-Other.evidence other,
      omega
          (arith, between_both c.args.set q.policy q.task q.vertex s c.args.room c.requires.room c.requires.wide),
    )

pub returns-in-Beyond-clause-half : goal.returns-in-Beyond-clause-half
returns-in-Beyond-clause-half g c =
    let q = c.args.question in
    let s = asked_subject c.args.set q c.requires.asked in
    let found = rw c.in-Beyond.is at c.in_ok-set.ensures.finding in
    rw c.leave.ensures (record { edf = found.0; reached = middle_reached c.args.set q.policy q.task q.vertex s c.args.room c.requires.room c.requires.wide; out_of_reach = found.1 })

pub returns-in-Undecided-clause-half : goal.returns-in-Undecided-clause-half
returns-in-Undecided-clause-half g c =
    let q = c.args.question in
    let s = asked_subject c.args.set q c.requires.asked in
    let found = rw c.in-Undecided.is at c.in_ok-set.ensures.finding in
    rw c.leave-in-Undecided.ensures (record { reached = middle_reached c.args.set q.policy q.task q.vertex s c.args.room c.requires.room c.requires.wide; spent = found })
