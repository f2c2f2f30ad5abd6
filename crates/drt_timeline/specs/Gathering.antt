-- The events of jobs, job by job, by when each job finishes.
use Rattle.std.specs.Prelude.{ℕ, nat_le, nat_lt, if◌then◌else◌, List, [], ◌∷◌, ◌++◌, Option, Some, None}
use Rattle.std.specs.declared.cmp.Ordering.{Ordering}
use Rattle.std.specs.Ordering.{nat_cmp, ordering_then}
use Rattle.drt_model.specs.declared.jobs.Job.{Job}
use Rattle.drt_timeline.specs.declared.event.Event.{Event}
use Rattle.drt_timeline.specs.Events.{mark_rank}
use Rattle.drt_timeline.specs.declared.event.Mark.{Mark}
use Rattle.drt_timeline.specs.declared.event.Mark.TheVariants.{Finish, Deadline, Miss, Release}

-- What a deadline is by when the job finishes: missed where it finishes later or not yet.
abbrev pub deadline_mark : Job → Option ℕ → Mark
deadline_mark job None = Miss
deadline_mark job (Some n) = if nat_lt job.deadline n then Miss else Deadline

-- The event of a finish.
abbrev pub finish_events : ℕ → Option ℕ → List Event
finish_events j None = []
finish_events j (Some n) = record { time = n; mark = Finish; job = j } ∷ []

-- The event of a deadline, where it comes by `until`.
abbrev pub deadline_events : ℕ → Job → Option ℕ → ℕ → List Event
deadline_events j job finish until = if nat_le job.deadline until then record { time = job.deadline; mark = deadline_mark job finish; job = j } ∷ [] else []

-- The event of a release, where it comes by `until`.
abbrev pub release_events : ℕ → Job → ℕ → List Event
release_events j job until = if nat_le job.time until then record { time = job.time; mark = Release; job = j } ∷ [] else []

-- The events of the job at place j.
unfoldable pub job_events : ℕ → Job → Option ℕ → ℕ → List Event
job_events j job finish until = finish_events j finish ++ (deadline_events j job finish until ++ release_events j job until)

-- What events are sorted by: the time, the rank of the mark, and the job's place.
abbrev pub event_key : Event → ℕ × ℕ × ℕ
event_key e = (e.time, mark_rank e.mark, e.job)

-- How two such triples compare, the first numbers first.
abbrev pub order_cmp : ℕ × ℕ × ℕ → ℕ × ℕ × ℕ → Ordering
order_cmp x y = ordering_then (ordering_then (nat_cmp x.0 y.0) (nat_cmp x.1 y.1)) (nat_cmp x.2 y.2)
