-- The tasks of higher priority, in order of the file, and walks of them in a list.
use Rattle.std.specs.Prelude.{ℕ, nat_lt, if◌then◌else◌, List, [], length, filter}
use Rattle.std.specs.List.{range_with_len}
use Rattle.drt_model.specs.declared.tasks.Task.{Task}
use Rattle.drt_busy.specs.Choice.{graph_at, task_at}
use Rattle.drt_busy.specs.Response.{cut}
use Rattle.drt_busy.specs.WalkReleases.{with_job}
use Rattle.drt_releases.specs.Walks.{walk_at}

-- The numbers of those of the first n tasks that have a higher priority than p (a lower number).
abbrev pub higher_before : List Task → ℕ → ℕ → List ℕ
higher_before tasks p n = filter (λ i. nat_lt (task_at tasks i).priority p) (range_with_len 0 n)

-- The numbers of the tasks that have a higher priority than task k.
abbrev pub higher_tasks : List Task → ℕ → List ℕ
higher_tasks tasks k = higher_before tasks (task_at tasks k).priority (length tasks)

-- The walk of task i, where walks of the tasks of a higher priority than p stand in order of the file; no walk for any other task.
abbrev pub walk_in_file_order : List Task → ℕ → List (List ℕ) → ℕ → List ℕ
walk_in_file_order tasks p walks i = if nat_lt (task_at tasks i).priority p then walk_at walks (length (higher_before tasks p i)) else []

-- The walk of task i beside vertex v of task k, where walks of the tasks of higher priority stand in order of the file and are cut at d ticks.
abbrev pub job_walk_in_file_order : List Task → List (List ℕ) → ℕ → ℕ → ℕ → ℕ → List ℕ
job_walk_in_file_order tasks walks k v d i = with_job tasks (λ j. cut (graph_at tasks j) d (walk_in_file_order tasks (task_at tasks k).priority walks j)) k v i
