-- What is drawn of releases.
use Rattle.std.specs.Prelude.{◌≡◌, ◌≢◌, ℕ, ◌<◌, Bool, false, List, length, slice_index_or}
use Rattle.drt_model.specs.declared.jobs.Policy.{Policy}
use Rattle.drt_model.specs.declared.jobs.Release.{Release}
use Rattle.drt_model.specs.declared.tasks.Task.{Task}
use Rattle.drt_model.specs.Schedulable.{jobs_of}
use Rattle.drt_timeline.specs.Text.{timeline_text}
use Rattle.drt_timeline.specs.Timeline.{IsTimeline}
use Rattle.drt_timeline.specs.declared.event.Event.{Event}
use Rattle.drt_timeline.specs.declared.event.Mark.TheVariants.{Finish, Miss}
use Rattle.drt_timeline.specs.declared.timeline.Timeline.{Timeline}

-- What is drawn is the replay: the spans and the events are those of the tick machine on the jobs of these releases, up to this tick.
-- Where no picture is asked for, the text says exactly these.
pub record IsDrawn (svg : Bool) (tasks : List Task) (policy : Policy) (releases : List Release) (until : ℕ) (text : List ℕ) : Type 0 where
  pub timeline : Timeline
  pub replay : IsTimeline policy (jobs_of tasks releases) until timeline
  pub text_is : svg ≡ false → text ≡ timeline_text tasks policy releases timeline

-- The event at a place of a list, and past its end a finish at 0.
abbrev pub event_at : List Event → ℕ → Event
event_at events i = slice_index_or events i (record { time = 0; mark = Finish; job = 0 })

-- The first miss among the events is of job j.
pub record IsFirstMissEvent (events : List Event) (j : ℕ) : Type 0 where
  pub at : ℕ
  pub here : at < length events
  pub is : (event_at events at).mark ≡ Miss
  pub of_job : (event_at events at).job ≡ j
  pub first : (i : ℕ) → i < at → (event_at events i).mark ≢ Miss
