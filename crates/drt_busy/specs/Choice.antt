-- Walks of the tasks of a set, one for each. A walk is a list of vertices here, and the empty list stands for no walk.
use Rattle.std.specs.Prelude.{ℕ, zero, suc, ◌+◌, ◌<◌, ◌≤◌, if◌then◌else◌, nat_lt, List, [], length, slice_index_or}
use Rattle.drt_model.specs.declared.tasks.Task.{Task}
use Rattle.drt_model.specs.Digraph.{Digraph, digraph_of}
use Rattle.drt_model.specs.Walk.{work, IsWalk, due_of, request_of}

-- What stands for a task past the last one.
abbrev pub no_task : Task
no_task = record { name = []; priority = 0; vertices = []; edges = [] }

-- The task of number k.
abbrev pub task_at : List Task → ℕ → Task
task_at tasks k = slice_index_or tasks k no_task

-- The graph of the task of number k.
abbrev pub graph_at : List Task → ℕ → Digraph
graph_at tasks k = digraph_of (task_at tasks k)

-- A walk of each task.
abbrev pub AreWalks : List Task → (ℕ → List ℕ) → Type 0
AreWalks tasks walks = (k : ℕ) → k < length tasks → IsWalk (graph_at tasks k) (walks k)

-- The last deadline of each walk is at most t.
abbrev pub AreDueBy : List Task → (ℕ → List ℕ) → ℕ → Type 0
AreDueBy tasks walks t = (k : ℕ) → k < length tasks → due_of (graph_at tasks k) (walks k) ≤ t

-- The work of the walks of the first n tasks together.
unfoldable pub efforts : List Task → (ℕ → List ℕ) → ℕ → ℕ
efforts tasks walks zero = 0
efforts tasks walks (suc k) = efforts tasks walks k + work (graph_at tasks k) (walks k)

-- What the walks of those of the first n tasks that have a higher priority than p (a lower number) ask for before t.
unfoldable pub requests : List Task → (ℕ → List ℕ) → ℕ → ℕ → ℕ → ℕ
requests tasks walks p zero t = 0
requests tasks walks p (suc k) t =
    requests tasks walks p k t
    + (if nat_lt (task_at tasks k).priority p then request_of (graph_at tasks k) (walks k) t else 0)
