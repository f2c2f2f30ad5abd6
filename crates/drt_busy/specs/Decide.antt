-- What decides a task set with constrained deadlines, in terms of walks alone.
use Rattle.std.specs.Prelude.{◌≡◌, ℕ, ◌+◌, ◌<◌, ◌≤◌, ◌↔◌, List, length, slice_index_or}
use Rattle.drt_model.specs.declared.jobs.Policy.{Policy}
use Rattle.drt_model.specs.declared.jobs.Policy.TheVariants.{Edf, Fixed}
use Rattle.drt_model.specs.declared.jobs.Release.{Release}
use Rattle.drt_model.specs.declared.tasks.Task.{Task}
use Rattle.drt_model.specs.Constrained.{AreConstrained}
use Rattle.drt_model.specs.Digraph.{vertex_count}
use Rattle.drt_model.specs.Limits.{IsTaskSet}
use Rattle.drt_model.specs.Legal.{IsLegal}
use Rattle.drt_model.specs.Schedulable.{Schedulable, jobs_of}
use Rattle.drt_model.specs.Trace.{job_at, Misses}
use Rattle.drt_model.specs.Walk.{deadline, wcet}
use Rattle.drt_busy.specs.Choice.{AreDueBy, AreWalks, efforts, graph_at, requests, task_at}
use Rattle.drt_busy.specs.Needs.{needs, is_due}
use Rattle.drt_busy.specs.WalkReleases.{all_releases, release_at, with_job}

-- Under EDF a set is schedulable exactly where no walks, one for each task, with last deadlines of at most t, have more work than
-- t together (Stigge, Ekberg, Guan and Yi, RTAS 2011).
abbrev pub DeadlinesDecide : Type 0
DeadlinesDecide =
    (version : ℕ) (tasks : List Task) → IsTaskSet version tasks → AreConstrained tasks
    → Schedulable tasks Edf
    ↔ ((t : ℕ) (walks : ℕ → List ℕ) → AreWalks tasks walks → AreDueBy tasks walks t → efforts tasks walks (length tasks) ≤ t)

-- Under fixed priorities a set is schedulable exactly where, for each vertex of each task and all walks of the tasks, some t up to
-- the vertex's deadline has room for its execution time and for what the walks of the higher tasks ask for before t (Stigge and
-- Yi, RTSS 2013).
abbrev pub TimesDecide : Type 0
TimesDecide =
    (version : ℕ) (tasks : List Task) → IsTaskSet version tasks → AreConstrained tasks
    → Schedulable tasks Fixed
    ↔ ((k v : ℕ) → k < length tasks → v < vertex_count (graph_at tasks k) → (walks : ℕ → List ℕ) → AreWalks tasks walks
    → (t : ℕ) × (1 ≤ t) × (t ≤ deadline (graph_at tasks k) v)
    × (wcet (graph_at tasks k) v + requests tasks walks (task_at tasks k).priority (length tasks) t ≤ t))

-- Walks, one for each task, with last deadlines of at most t and with more work than t together: their releases are legal, those
-- that are due by t need more than t, and under either policy a job that is due by t misses.
abbrev pub DemandMisses : Type 0
DemandMisses =
    (version : ℕ) (tasks : List Task) → IsTaskSet version tasks → AreConstrained tasks
    → (t : ℕ) (walks : ℕ → List ℕ) → AreWalks tasks walks → AreDueBy tasks walks t → t < efforts tasks walks (length tasks)
    → IsLegal tasks (all_releases tasks walks (length tasks))
    × (t < needs (is_due 0 t) (jobs_of tasks (all_releases tasks walks (length tasks))))
    × ((policy : Policy) → (j : ℕ) × (j < length (all_releases tasks walks (length tasks)))
    × ((job_at (jobs_of tasks (all_releases tasks walks (length tasks))) j).deadline ≤ t)
    × Misses policy (jobs_of tasks (all_releases tasks walks (length tasks))) j)

-- A vertex and walks of the tasks such that no t up to the vertex's deadline has room for its execution time and for what the
-- higher tasks' walks ask for before t: the releases of the higher tasks' walks and one of the vertex at 0 are legal, and under
-- fixed priorities the job of that vertex misses.
abbrev pub RequestsMiss : Type 0
RequestsMiss =
    (version : ℕ) (tasks : List Task) → IsTaskSet version tasks
    → (k v : ℕ) → k < length tasks → v < vertex_count (graph_at tasks k) → (walks : ℕ → List ℕ) → AreWalks tasks walks
    → ((t : ℕ) → 1 ≤ t → t ≤ deadline (graph_at tasks k) v
    → t < wcet (graph_at tasks k) v + requests tasks walks (task_at tasks k).priority (length tasks) t)
    → IsLegal tasks (all_releases tasks (with_job tasks walks k v) (length tasks))
    × ((j : ℕ) × (j < length (all_releases tasks (with_job tasks walks k v) (length tasks)))
    × (slice_index_or (all_releases tasks (with_job tasks walks k v) (length tasks)) j (release_at (graph_at tasks k) k 0 v) ≡ release_at (graph_at tasks k) k 0 v)
    × Misses Fixed (jobs_of tasks (all_releases tasks (with_job tasks walks k v) (length tasks))) j)

-- Under fixed priorities, for one task: where for each of its vertices and all walks of the tasks some t up to the vertex's
-- deadline has room for its execution time and for what the higher tasks' walks ask for before t, none of its jobs misses.
abbrev pub TimesSufficeForTask : Type 0
TimesSufficeForTask =
    (version : ℕ) (tasks : List Task) → IsTaskSet version tasks → AreConstrained tasks → (k : ℕ)
    → ((v : ℕ) → v < vertex_count (graph_at tasks k) → (walks : ℕ → List ℕ) → AreWalks tasks walks
    → (t : ℕ) × (1 ≤ t) × (t ≤ deadline (graph_at tasks k) v)
    × (wcet (graph_at tasks k) v + requests tasks walks (task_at tasks k).priority (length tasks) t ≤ t))
    → (rs : List Release) → IsLegal tasks rs → (j : ℕ) → j < length rs → (job_at (jobs_of tasks rs) j).task ≡ k
    → ¬ Misses Fixed (jobs_of tasks rs) j
