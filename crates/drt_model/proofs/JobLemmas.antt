-- The jobs of a legal list of releases.
use Rattle.std.proofs.Common.{◌≡◌, ℕ, ◌<◌, ◌≤◌, List, length, get_or, Option, Some, None, IsSomeAnd, slice_get, refl, ap, arith}
use Rattle.std.proofs.lemmas.List.{get_or-map, length-map}
use Rattle.drt_model.specs.declared.tasks.Task.{Task}
use Rattle.drt_model.specs.declared.tasks.Vertex.{Vertex}
use Rattle.drt_model.specs.declared.jobs.Release.{Release}
use Rattle.drt_model.specs.Legal.{IsLegal, IsAllowed, IsReleaseOf}
use Rattle.drt_model.specs.Trace.{job_at}
use Rattle.drt_model.specs.Schedulable.{job_of, jobs_of, deadline_of}
use Rattle.drt_model.proofs.LegalLemmas.{allowed_if_legal}

abbrev pub no_release : Release
no_release = record { task = 0; vertex = 0; time = 0; need = 0 }

pub length-jobs_of : (tasks : List Task) (rs : List Release) → length (jobs_of tasks rs) ≡ length rs
length-jobs_of tasks rs = length-map rs (job_of tasks)

pub job_at-jobs_of : (tasks : List Task) (rs : List Release) (j : ℕ) → j < length rs → job_at (jobs_of tasks rs) j ≡ job_of tasks (get_or rs j no_release)
job_at-jobs_of tasks rs j h = get_or-map (job_of tasks) rs j no_release (record { task = 0; priority = 0; time = 0; deadline = 0; need = 0 }) h

-- what is known of an allowed release: its task, its vertex, and its need
pub record Known (tasks : List Task) (r : Release) : Type 0 where
  pub task : Task
  pub vertex : Vertex
  pub is_task : slice_get tasks r.task ≡ Some task
  pub is_vertex : slice_get task.vertices r.vertex ≡ Some vertex
  pub some_need : 1 ≤ r.need
  pub need : r.need ≤ vertex.wcet

known_vertex : (tasks : List Task) (r : Release) (t : Task) (o : Option Vertex) → slice_get tasks r.task ≡ Some t → slice_get t.vertices r.vertex ≡ o
    → IsSomeAnd o (λ v. (1 ≤ r.need) × (r.need ≤ v.wcet)) → Known tasks r
known_vertex tasks r t None e f h = absurd h
known_vertex tasks r t (Some v) e f h = record { task = t; vertex = v; is_task = e; is_vertex = f; some_need = h.0; need = h.1 }

known_task : (tasks : List Task) (r : Release) (o : Option Task) → slice_get tasks r.task ≡ o → IsSomeAnd o (λ t. IsReleaseOf t r) → Known tasks r
known_task tasks r None e h = absurd h
known_task tasks r (Some t) e h = known_vertex tasks r t (slice_get t.vertices r.vertex) e refl h

pub known : (tasks : List Task) (r : Release) → IsAllowed tasks r → Known tasks r
known tasks r h = known_task tasks r (slice_get tasks r.task) refl h

pub deadline_of_known : (tasks : List Task) (r : Release) (k : Known tasks r) → deadline_of tasks r ≡ k.vertex.deadline
deadline_of_known tasks r k = rw (k.is_task, k.is_vertex)

pub need_positive : (tasks : List Task) (rs : List Release) → IsLegal tasks rs → (j : ℕ) → j < length (jobs_of tasks rs) → 1 ≤ (job_at (jobs_of tasks rs) j).need
need_positive tasks rs l j h =
    let below : j < length rs = omega (arith, length-jobs_of tasks rs) in
    let k = known tasks (get_or rs j no_release) (allowed_if_legal tasks rs l j no_release below) in
    omega (arith, ap (λ job. job.need) (job_at-jobs_of tasks rs j below), k.some_need)
