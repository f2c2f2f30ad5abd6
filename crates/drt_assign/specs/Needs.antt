-- How large a budget is enough for an order, by the numbers of the tasks' walks. Nothing computes these numbers.
use Rattle.std.specs.Prelude.{ℕ, zero, suc, ◌+◌, ◌*◌, ◌<◌, ◌≤◌, List, length}
use Rattle.drt_model.specs.declared.tasks.Task.{Task}
use Rattle.drt_graph.specs.Degrees.{most_out}
use Rattle.drt_busy.specs.Choice.{graph_at}
use Rattle.drt_claims.specs.Trees.{greatest_deadline}
use Rattle.drt_sp.specs.Needs.{HasAtMost}

-- The product of the first n numbers.
unfoldable pub product_of : (ℕ → ℕ) → ℕ → ℕ
product_of counts zero = 1
product_of counts (suc k) = product_of counts k * counts k

-- Under whatever priorities the budget is enough: it is at least the number of each task's walks that span less than the greatest deadline
-- times two more than the greatest number of edges out of a vertex, and at least four times the product of these numbers.
pub record IsEnoughForOrders (tasks : List Task) (budget : ℕ) : Type 0 where
  pub counts : ℕ → ℕ
  pub walks : (k : ℕ) → k < length tasks → HasAtMost (greatest_deadline tasks) (graph_at tasks k) (counts k)
  pub searches : (k : ℕ) → k < length tasks → counts k * (most_out (graph_at tasks k).out + 2) ≤ budget
  pub refinements : 4 * product_of counts (length tasks) ≤ budget
