-- The events of a replay.
use Rattle.std.specs.Prelude.{◌≡◌, ℕ, ◌<◌, ◌≤◌, ◌⊎◌, List, length, All, Contains}
use Rattle.drt_model.specs.declared.jobs.Job.{Job}
use Rattle.drt_model.specs.declared.jobs.Policy.{Policy}
use Rattle.drt_model.specs.Legal.{AllNeighbours}
use Rattle.drt_model.specs.Trace.{job_at, Misses, IsFinish}
use Rattle.drt_timeline.specs.declared.event.Event.{Event}
use Rattle.drt_timeline.specs.declared.event.Mark.{Mark}
use Rattle.drt_timeline.specs.declared.event.Mark.TheVariants.{Finish, Deadline, Miss, Release}

-- This happens to job j at this time: it has had its need, its deadline comes and it meets or misses it, or it is released.
abbrev pub Happens : Policy → List Job → Mark → ℕ → ℕ → Type 0
Happens policy jobs Finish j time = IsFinish policy jobs j time
Happens policy jobs Deadline j time = (time ≡ (job_at jobs j).deadline) × ¬ Misses policy jobs j
Happens policy jobs Miss j time = (time ≡ (job_at jobs j).deadline) × Misses policy jobs j
Happens policy jobs Release j time = time ≡ (job_at jobs j).time

-- The event happens to a job of the list, not after `until`.
pub record IsEvent (policy : Policy) (jobs : List Job) (until : ℕ) (e : Event) : Type 0 where
  pub here : e.job < length jobs
  pub in_time : e.time ≤ until
  pub happens : Happens policy jobs e.mark e.job e.time

-- Of events at one time, finishes come first, then deadlines, then misses, then releases.
abbrev pub mark_rank : Mark → ℕ
mark_rank Finish = 0
mark_rank Deadline = 1
mark_rank Miss = 2
mark_rank Release = 3

-- The first event comes before the second: by time, then by what it is, then by the job's place.
abbrev pub IsEventBefore : Event → Event → Type 0
IsEventBefore e f =
    (e.time < f.time)
    ⊎ ((e.time ≡ f.time) × ((mark_rank e.mark < mark_rank f.mark) ⊎ ((mark_rank e.mark ≡ mark_rank f.mark) × (e.job < f.job))))

-- The events are all that happen not after `until`, each once, in order.
pub record AreEvents (policy : Policy) (jobs : List Job) (until : ℕ) (events : List Event) : Type 0 where
  pub each : All (IsEvent policy jobs until) events
  pub all : (e : Event) → IsEvent policy jobs until e → Contains events e
  pub in_order : AllNeighbours IsEventBefore events
