-- Whether a task set meets its deadlines.
use Rattle.std.specs.Prelude.{ℕ, ◌+◌, ◌<◌, List, length, map, Option, unwrap_or, option_map, option_and_then, slice_get}
use Rattle.drt_model.specs.declared.jobs.Job.{Job}
use Rattle.drt_model.specs.declared.jobs.Policy.{Policy}
use Rattle.drt_model.specs.declared.jobs.Release.{Release}
use Rattle.drt_model.specs.declared.tasks.Vertex.{Vertex}
use Rattle.drt_model.specs.declared.tasks.Task.{Task}
use Rattle.drt_model.specs.Legal.{IsLegal}
use Rattle.drt_model.specs.Trace.{Misses}

-- The vertex that a release names.
abbrev pub vertex_named : List Task → Release → Option Vertex
vertex_named tasks r = option_and_then (λ t. slice_get t.vertices r.vertex) (slice_get tasks r.task)

-- The relative deadline of that vertex.
abbrev pub deadline_of : List Task → Release → ℕ
deadline_of tasks r = unwrap_or (option_map (λ v. v.deadline) (vertex_named tasks r)) 0

-- The priority of the task that a release names.
abbrev pub priority_of : List Task → Release → ℕ
priority_of tasks r = unwrap_or (option_map (λ t. t.priority) (slice_get tasks r.task)) 0

-- The job of a release: its deadline is its time plus the relative deadline of its vertex.
abbrev pub job_of : List Task → Release → Job
job_of tasks r = record { task = r.task; priority = priority_of tasks r; time = r.time; deadline = r.time + deadline_of tasks r; need = r.need }

-- The jobs of a list of releases, in the same order.
abbrev pub jobs_of : List Task → List Release → List Job
jobs_of tasks releases = map (job_of tasks) releases

-- A set is schedulable under a policy where no job of any legal list of releases misses.
abbrev pub Schedulable : List Task → Policy → Type 0
Schedulable tasks policy =
    (releases : List Release) → IsLegal tasks releases → (j : ℕ) → j < length releases → ¬ Misses policy (jobs_of tasks releases) j
