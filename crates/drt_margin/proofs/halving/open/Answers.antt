use Rattle.drt_margin.proofs.Rooms.{asked_subject, in_time, room_opens}
use Rattle.drt_margin.proofs.halving.open.Goals as goal

pub overflow_sub-result : goal.overflow_sub-result
overflow_sub-result c =
    let q = c.args.question in
    rw (c.wcet_of-wcet.ensures.value, c.deadline_of-deadline.ensures.value)
    (in_time c.args.set.now q.policy q.task q.vertex (asked_subject c.args.set.now q c.requires.asked) c.args.evidence c.requires.yes)

pub returns : goal.returns
returns c =
    let q = c.args.question in
    let few = rw c.deadline_of-deadline.ensures.value at c.deadline_of-deadline.ensures.time.1 in
    rw (c.wcet_of-wcet.ensures.value, c.deadline_of-deadline.ensures.value)
    (room_opens c.args.set.now q.policy q.task q.vertex (asked_subject c.args.set.now q c.requires.asked) c.args.evidence few c.requires.yes)
