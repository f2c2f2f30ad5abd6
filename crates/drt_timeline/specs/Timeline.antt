-- The spans and the events of a replay, together.
use Rattle.std.specs.Prelude.{ℕ, List}
use Rattle.drt_model.specs.declared.jobs.Job.{Job}
use Rattle.drt_model.specs.declared.jobs.Policy.{Policy}
use Rattle.drt_timeline.specs.declared.timeline.Timeline.{Timeline}
use Rattle.drt_timeline.specs.Spans.{AreSpans}
use Rattle.drt_timeline.specs.Events.{AreEvents}

-- The timeline has the spans of the ticks before `until`, and the events not after it.
pub record IsTimeline (policy : Policy) (jobs : List Job) (until : ℕ) (timeline : Timeline) : Type 0 where
  pub spans : AreSpans policy jobs until timeline.spans
  pub events : AreEvents policy jobs until timeline.events
