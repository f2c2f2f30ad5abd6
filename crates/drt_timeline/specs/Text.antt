-- The text of a timeline. A line is the list of its fields.
use Rattle.drt_file.specs.trusted.Words.{policy_word}
use Rattle.std.specs.Prelude.{ℕ, List, [], ◌∷◌, ◌++◌, map, codes, decimal, nat_le, if◌then◌else◌, unwrap_or, option_map, slice_get, slice_index_or}
use Rattle.drt_file.specs.trusted.Canonical.{written}
use Rattle.drt_model.specs.declared.jobs.Policy.{Policy}
use Rattle.drt_model.specs.declared.jobs.Policy.TheVariants.{Edf, Fixed}
use Rattle.drt_model.specs.declared.jobs.Release.{Release}
use Rattle.drt_model.specs.declared.tasks.Task.{Task}
use Rattle.drt_model.specs.Misses.{index_of}
use Rattle.drt_model.specs.Schedulable.{jobs_of, vertex_named}
use Rattle.drt_timeline.specs.declared.event.Event.{Event}
use Rattle.drt_timeline.specs.declared.event.Mark.{Mark}
use Rattle.drt_timeline.specs.declared.event.Mark.TheVariants.{Finish, Deadline, Miss, Release as Released}
use Rattle.drt_timeline.specs.declared.span.Span.{Span}
use Rattle.drt_timeline.specs.declared.timeline.Timeline.{Timeline}

-- The keyword of each mark.
abbrev pub mark_word : Mark → List ℕ
mark_word Finish = codes "finish"
mark_word Deadline = codes "deadline"
mark_word Miss = codes "miss"
mark_word Released = codes "release"

-- The release at a place of a list, and past its end one of the first vertex of the first task.
abbrev pub release_in : List Release → ℕ → Release
release_in releases j = slice_index_or releases j (record { task = 0; vertex = 0; time = 0; need = 0 })

-- The name of the task of a release, and no byte where there is none.
abbrev pub name_of_task : List Task → Release → List ℕ
name_of_task tasks r = unwrap_or (option_map (λ t. t.name) (slice_get tasks r.task)) []

-- The name of the vertex of a release, and no byte where there is none.
abbrev pub name_of_vertex : List Task → Release → List ℕ
name_of_vertex tasks r = unwrap_or (option_map (λ v. v.name) (vertex_named tasks r)) []

-- The fields that name the job at a place: its task, its vertex, and its index among the jobs of its task, from 0.
abbrev pub job_fields : List Task → List Release → ℕ → List (List ℕ)
job_fields tasks releases j =
    name_of_task tasks (release_in releases j) ∷ name_of_vertex tasks (release_in releases j) ∷ decimal (index_of (jobs_of tasks releases) j) ∷ []

-- The line of an event: its mark, its time and its job.
abbrev pub event_line : List Task → List Release → Event → List (List ℕ)
event_line tasks releases e = mark_word e.mark ∷ decimal e.time ∷ job_fields tasks releases e.job

-- The line of a span: its start, its end and its job.
abbrev pub span_line : List Task → List Release → Span → List (List ℕ)
span_line tasks releases s = decimal s.start ∷ decimal s.end ∷ job_fields tasks releases s.job

-- The lines of events.
abbrev pub event_lines : List Task → List Release → List Event → List (List (List ℕ))
event_lines tasks releases events = map (event_line tasks releases) events

-- The events before the first that is later than a time.
unfoldable pub events_until : ℕ → List Event → List Event
events_until t [] = []
events_until t (e ∷ events) = if nat_le e.time t then e ∷ events_until t events else []

-- The events from the first on that is later than a time.
unfoldable pub events_after : ℕ → List Event → List Event
events_after t [] = []
events_after t (e ∷ events) = if nat_le e.time t then events_after t events else e ∷ events

-- The lines of spans and events: that of a span stands behind those of the events up to its start.
unfoldable pub timeline_lines : List Task → List Release → List Span → List Event → List (List (List ℕ))
timeline_lines tasks releases [] events = event_lines tasks releases events
timeline_lines tasks releases (s ∷ spans) events =
    event_lines tasks releases (events_until s.start events)
    ++ span_line tasks releases s ∷ timeline_lines tasks releases spans (events_after s.start events)

-- The lines above the spans and events: what the text is, and the policy.
abbrev pub timeline_head_lines : Policy → List (List (List ℕ))
timeline_head_lines policy = (codes "drt-timeline" ∷ codes "1" ∷ []) ∷ (codes "policy" ∷ policy_word policy ∷ []) ∷ []

-- The text of a timeline: its head, the lines of its spans and events, and the last line.
abbrev pub timeline_text : List Task → Policy → List Release → Timeline → List ℕ
timeline_text tasks policy releases timeline =
    written (timeline_head_lines policy ++ (timeline_lines tasks releases timeline.spans timeline.events ++ (codes "close" ∷ []) ∷ []))
