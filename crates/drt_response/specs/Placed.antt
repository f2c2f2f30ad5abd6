-- Walks of the tasks of higher priority in a list, in order of priority.
use Rattle.std.specs.Prelude.{ℕ, List}
use Rattle.drt_model.specs.declared.tasks.Task.{Task}
use Rattle.drt_busy.specs.Choice.{graph_at, task_at}
use Rattle.drt_busy.specs.Response.{cut}
use Rattle.drt_busy.specs.WalkReleases.{with_job}
use Rattle.drt_claims.specs.Trees.{higher_count}
use Rattle.drt_releases.specs.Walks.{walk_at}

-- The walk of task k: it stands at the place that is the number of the tasks of higher priority. No walk past the end of the list.
abbrev pub walk_in_priority_order : List Task → List (List ℕ) → ℕ → List ℕ
walk_in_priority_order tasks walks k = walk_at walks (higher_count tasks (task_at tasks k).priority)

-- These walks beside vertex v of task k, cut at n ticks.
abbrev pub job_walk_in_priority_order : List Task → List (List ℕ) → ℕ → ℕ → ℕ → ℕ → List ℕ
job_walk_in_priority_order tasks walks k v n i = with_job tasks (λ j. cut (graph_at tasks j) n (walk_in_priority_order tasks walks j)) k v i
