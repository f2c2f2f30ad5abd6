use Rattle.drt_margin.proofs.Rooms.{asked_subject, room_answered}
use Rattle.drt_margin.proofs.halving.close.Goals as goal

pub returns-in_ok-set-in-None-clause-answer : goal.returns-in_ok-set-in-None-clause-answer
returns-in_ok-set-in-None-clause-answer g c =
    let q = c.args.question in
    let budget = c.args.crew.now.effort.budget in
    let subject = asked_subject c.args.set q c.requires.asked in
    rw c.answer_with-in-None.ensures
    (room_answered c.args.set q.policy q.task q.vertex budget subject c.args.room c.requires.room c.requires.narrow c.in_ok-set-in-None.last c.in_ok-set-in-None.ensures.last)
