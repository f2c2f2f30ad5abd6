-- Walks of the tasks that leave a vertex no time.
use Rattle.std.specs.Prelude.{ℕ, ◌+◌, ◌<◌, ◌≤◌, List, length}
use Rattle.drt_model.specs.declared.tasks.Task.{Task}
use Rattle.drt_model.specs.Walk.{deadline, wcet}
use Rattle.drt_busy.specs.Choice.{AreWalks, graph_at, requests, task_at}

-- Walks of the tasks such that no time up to the deadline of vertex v of task k has room for it and for what the walks of the tasks of higher
-- priority ask for before that time.
pub record LeaveNoTime (tasks : List Task) (walks : ℕ → List ℕ) (k v : ℕ) : Type 0 where
  pub are : AreWalks tasks walks
  pub none : (t : ℕ) → 1 ≤ t → t ≤ deadline (graph_at tasks k) v
      → t < wcet (graph_at tasks k) v + requests tasks walks (task_at tasks k).priority (length tasks) t
