use Rattle.std.proofs.Common.{length, arith}
use Rattle.drt_picture.proofs.EventLemmas.{all_early, all_later, none_later}
use Rattle.drt_picture.proofs.layout.count_before.Goals as goal

pub returns-then-event-time-clause-early : goal.returns-then-event-time-clause-early
returns-then-event-time-clause-early c = all_early c.args.events.now c.args.time c.loop-i.i c.loop-i.invariant

pub returns-then-event-time-clause-later : goal.returns-then-event-time-clause-later
returns-then-event-time-clause-later c = all_later c.args.events.now c.args.time c.loop-i.i _ c.requires c.loop-i-test.true c.if-event-time.true

pub returns-clause-early : goal.returns-clause-early
returns-clause-early c = all_early c.args.events.now c.args.time (length c.args.events.now) (λ k d l. c.loop-i.invariant k d (omega arith))

pub returns-clause-later : goal.returns-clause-later
returns-clause-later c = none_later c.args.events.now c.args.time (length c.args.events.now) (omega arith)
