-- The spans and the events are those of the jobs of the releases.
use Rattle.std.proofs.Common.{◌≡◌, ℕ, ◌<◌, List, length, All, sym, ap, ◌∙◌, subst, arith}
use Rattle.std.proofs.lemmas.List.Elements.{All-weaker}
use Rattle.drt_model.specs.declared.jobs.Job.{Job}
use Rattle.drt_model.specs.declared.jobs.Policy.{Policy}
use Rattle.drt_model.specs.declared.jobs.Release.{Release}
use Rattle.drt_model.specs.declared.tasks.Task.{Task}
use Rattle.drt_model.specs.Schedulable.{jobs_of}
use Rattle.drt_model.proofs.JobLemmas.{length-jobs_of}
use Rattle.drt_replay.specs.Board.{Shown}
use Rattle.drt_timeline.specs.declared.event.Event.{Event}
use Rattle.drt_timeline.specs.declared.span.Span.{Span}
use Rattle.drt_timeline.specs.declared.timeline.Timeline.{Timeline}
use Rattle.drt_timeline.specs.Events.{AreEvents, IsEvent}
use Rattle.drt_timeline.specs.Spans.{AreSpans, IsSpan}
use Rattle.drt_timeline.specs.Timeline.{IsTimeline}
use Rattle.drt_timeline.proofs.timeline.timeline_of.Goals as goal

-- the spans and the events are of places of the list
module _ (policy : Policy) (tasks : List Task) (rs : List Release) (until : ℕ) (timeline : Timeline) (is : IsTimeline policy (jobs_of tasks rs) until timeline) where
  spans_in : All (λ s. s.job < length rs) timeline.spans
  spans_in = All-weaker (IsSpan (jobs_of tasks rs) until) (λ s. s.job < length rs) (λ s h. omega (arith, h.here, length-jobs_of tasks rs)) timeline.spans is.spans.each

  events_in : All (λ e. e.job < length rs) timeline.events
  events_in = All-weaker (IsEvent policy (jobs_of tasks rs) until) (λ e. e.job < length rs) (λ e h. omega (arith, h.here, length-jobs_of tasks rs)) timeline.events is.events.each

-- they are those of the board that ran
timeline_is : (policy : Policy) (jobs : List Job) (until : ℕ) (before after : Shown) (spans all_spans : List Span) (events all_events : List Event)
    → before ≡ record { policy = policy; jobs = jobs; ticks = 0 } → after ≡ record before { ticks = until } → AreSpans before.policy before.jobs until spans
    → AreEvents after.policy after.jobs after.ticks events → all_spans ≡ spans → all_events ≡ events → IsTimeline policy jobs until (record { spans = all_spans; events = all_events })
timeline_is policy jobs until before after spans all_spans events all_events start run are happen same_spans same_events =
    let ran : after ≡ record { policy = policy; jobs = jobs; ticks = until } = run ∙ ap (λ (b : Shown). record b { ticks = until }) start in
    record {
      spans = subst (AreSpans policy jobs until) (sym same_spans) (subst (λ (b : Shown). AreSpans b.policy b.jobs until spans) start are);
      events = subst (AreEvents policy jobs until) (sym same_events) (subst (λ (b : Shown). AreEvents b.policy b.jobs b.ticks events) ran happen);
    }

pub returns-clause-timeline : goal.returns-clause-timeline
returns-clause-timeline c =
    timeline_is c.args.policy (jobs_of c.args.set.now.tasks c.args.releases.now) c.args.until c.in_ok-board.board c.spans_of.new.board
    c.in_ok-spans.spans.items c.from_vec.result c.in_ok-events.events.items c.from_vec-2.result c.in_ok-board.ensures c.in_ok-spans.ensures.run
    c.in_ok-spans.ensures.spans c.in_ok-events.ensures c.from_vec.ensures c.from_vec-2.ensures

pub returns-clause-spans_here : goal.returns-clause-spans_here
returns-clause-spans_here c =
    spans_in c.args.policy c.args.set.now.tasks c.args.releases.now c.args.until (record { spans = c.from_vec.result; events = c.from_vec-2.result })
    (timeline_is c.args.policy (jobs_of c.args.set.now.tasks c.args.releases.now) c.args.until c.in_ok-board.board c.spans_of.new.board
    c.in_ok-spans.spans.items c.from_vec.result c.in_ok-events.events.items c.from_vec-2.result c.in_ok-board.ensures c.in_ok-spans.ensures.run
    c.in_ok-spans.ensures.spans c.in_ok-events.ensures c.from_vec.ensures c.from_vec-2.ensures)

pub returns-clause-events_here : goal.returns-clause-events_here
returns-clause-events_here c =
    events_in c.args.policy c.args.set.now.tasks c.args.releases.now c.args.until (record { spans = c.from_vec.result; events = c.from_vec-2.result })
    (timeline_is c.args.policy (jobs_of c.args.set.now.tasks c.args.releases.now) c.args.until c.in_ok-board.board c.spans_of.new.board
    c.in_ok-spans.spans.items c.from_vec.result c.in_ok-events.events.items c.from_vec-2.result c.in_ok-board.ensures c.in_ok-spans.ensures.run
    c.in_ok-spans.ensures.spans c.in_ok-events.ensures c.from_vec.ensures c.from_vec-2.ensures)
