-- The events of one more job are gathered, and the sort keeps them all.
use Rattle.std.proofs.Common.{◌≡◌, ◌+◌, ◌++◌, length, sym, ap, ◌∙◌, subst, arith, rules}
use Rattle.std.proofs.lemmas.Fn.{always_returns_same}
use Rattle.drt_model.specs.Trace.{job_at}
use Rattle.drt_timeline.specs.Gathering.{job_events, event_key}
use Rattle.drt_timeline.proofs.GatheringLemmas.{AreEventsBelow, all_events, events_more, events_none}
use Rattle.drt_timeline.proofs.gathering.events_of.Goals as goal

pub loop-j-init : goal.loop-j-init
loop-j-init c =
    let b = c.args.board.now in
    subst (AreEventsBelow b.policy b.jobs b.ticks 0) (sym c.new-events.ensures.items) (events_none b.policy b.jobs b.ticks)

pub loop-j-preserved : goal.loop-j-preserved
loop-j-preserved c =
    let b = c.args.board.now in
    let j = c.loop-j.j in
    let events = c.loop-j.events.items in
    let finish = c.finish_at.result in
    let more = events_more b.policy b.jobs b.ticks j (omega (arith, c.loop-j-test.true, c.count-j-end.ensures)) finish c.finish_at.ensures events c.loop-j.invariant in
    let is : c.push_events.new.events.items ≡ events ++ job_events j (job_at b.jobs j) finish b.ticks
    = c.in_ok-push_events.ensures
    ∙ ap (λ job. events ++ job_events j job finish c.ticks-until.result) c.job.ensures
    ∙ ap (λ n. events ++ job_events j (job_at b.jobs j) finish n) c.ticks-until.ensures in
    subst (AreEventsBelow b.policy b.jobs b.ticks (j + 1)) (sym is) more

pub returns : goal.returns
returns c =
    let b = c.args.board.now in
    let events = c.loop-j.events.items in
    let end : c.loop-j.j ≡ length b.jobs = omega arith in
    let gathered = subst (λ n. AreEventsBelow b.policy b.jobs b.ticks n events) end c.loop-j.invariant in
    all_events b.policy b.jobs b.ticks events c.sort_unstable_by_key.new.self.items gathered c.sort_unstable_by_key.ensures.permutation
    (c.sort_unstable_by_key.ensures.sorted event_key (always_returns_same _ (λ a r. r ≡ event_key a.0.now) _ (λ a r q k. search rules)))
