-- One more event is printed, until none is left up to the time.
use Rattle.std.proofs.Common.{arith}
use Rattle.drt_timeline.proofs.PrintLemmas.{after_end, after_step, until_end, until_step}
use Rattle.drt_timeline.proofs.text.push_events_until.Goals as goal

pub loop-next-preserved : goal.loop-next-preserved
loop-next-preserved c =
    let tasks = c.args.names.now.tasks in
    let releases = c.args.names.now.releases in
    let events = c.args.events.now in
    let next = c.loop-next.next in
    record {
      within = omega arith;
      printed = until_step tasks releases events next c.loop-next-test.true _ c.loop-next.text.items c.push_event.new.text.items _ c.in_ok-push_event.ensures c.args.time c.if-events-next.true
          c.loop-next.invariant.printed;
      rest = after_step tasks releases events next c.loop-next-test.true _ c.loop-next.text.items c.push_event.new.text.items c.push_event.new.text.items
          c.in_ok-push_event.ensures c.args.time c.if-events-next.true
          _ c.loop-next.invariant.rest;
    }

pub returns-else-events-next-clause-printed : goal.returns-else-events-next-clause-printed
returns-else-events-next-clause-printed c =
    let tasks = c.args.names.now.tasks in
    let releases = c.args.names.now.releases in
    record {
      text = until_end tasks releases c.args.events.now c.loop-next.next c.args.time (λ h. omega arith) c.loop-next.text.items _ c.loop-next.invariant.printed;
      rest = after_end tasks releases c.args.events.now c.loop-next.next c.args.time (λ h. omega arith) _ c.loop-next.invariant.rest;
    }

pub returns-after-loop-next-clause-printed : goal.returns-after-loop-next-clause-printed
returns-after-loop-next-clause-printed c =
    let tasks = c.args.names.now.tasks in
    let releases = c.args.names.now.releases in
    record {
      text = until_end tasks releases c.args.events.now c.loop-next.next c.args.time (λ h. absurd (omega arith)) c.loop-next.text.items _ c.loop-next.invariant.printed;
      rest = after_end tasks releases c.args.events.now c.loop-next.next c.args.time (λ h. absurd (omega arith)) _ c.loop-next.invariant.rest;
    }
