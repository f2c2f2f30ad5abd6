-- How large a budget is enough, by the numbers of the tasks' walks. Nothing computes these numbers.
use Rattle.std.specs.Prelude.{◌≡◌, ℕ, zero, suc, ◌+◌, ◌*◌, ◌<◌, ◌≤◌, nat_lt, if◌then◌else◌, Some, List, length, Contains, slice_get}
use Rattle.drt_model.specs.declared.tasks.Task.{Task}
use Rattle.drt_graph.specs.Degrees.{most_out}
use Rattle.drt_model.specs.Digraph.{Digraph}
use Rattle.drt_busy.specs.Choice.{graph_at, task_at}
use Rattle.drt_tree.specs.Tree.{Plain, leaves}
use Rattle.drt_claims.specs.Trees.{IsShortWalk, greatest_deadline}

-- No more than n walks of the graph span less than the bound: a list of n walks has each of them.
abbrev pub HasAtMost : ℕ → Digraph → ℕ → Type 0
HasAtMost bound g n = (walks : List (List ℕ)) × (length walks ≡ n) × ((w : List ℕ) → IsShortWalk bound g w → Contains walks w)

-- The tree at each place has no more leaves than walks of the task at that place of the order span less than the greatest deadline.
abbrev pub AreFewLeaves : List Task → List ℕ → Plain → List ℕ → Type 0
AreFewLeaves tasks order f roots =
    (i k root n : ℕ) → slice_get order i ≡ Some k → slice_get roots i ≡ Some root → HasAtMost (greatest_deadline tasks) (graph_at tasks k) n
    → leaves f root ≤ n

-- The product of the numbers of those of the first n tasks that have a higher priority than p (a lower number).
unfoldable pub product_above : List Task → (ℕ → ℕ) → ℕ → ℕ → ℕ
product_above tasks counts p zero = 1
product_above tasks counts p (suc k) = product_above tasks counts p k * (if nat_lt (task_at tasks k).priority p then counts k else 1)

-- The budget is enough for each search of a task's walks but that of lowest priority, and for the refinement at each vertex.
pub record IsEnoughForTrees (tasks : List Task) (budget : ℕ) : Type 0 where
  pub counts : ℕ → ℕ
  pub walks : (k : ℕ) → k < length tasks → HasAtMost (greatest_deadline tasks) (graph_at tasks k) (counts k)
  pub searches : (k i : ℕ) → k < length tasks → i < length tasks → (task_at tasks k).priority < (task_at tasks i).priority
      → counts k * (most_out (graph_at tasks k).out + 2) ≤ budget
  pub refinements : (k : ℕ) → k < length tasks → 4 * product_above tasks counts (task_at tasks k).priority (length tasks) ≤ budget

-- The budget is below what a search of the graph's walks up to the bound may need, however many such walks there are.
abbrev pub IsBelowSearch : ℕ → Digraph → ℕ → Type 0
IsBelowSearch bound g budget = (n : ℕ) → HasAtMost bound g n → budget < n * (most_out g.out + 2)

-- The budget is below what the refinement at a vertex of task k may need, however many walks the tasks have.
abbrev pub IsBelowRefinement : List Task → ℕ → ℕ → Type 0
IsBelowRefinement tasks budget k =
    (counts : ℕ → ℕ) → ((i : ℕ) → i < length tasks → HasAtMost (greatest_deadline tasks) (graph_at tasks i) (counts i))
    → budget < 4 * product_above tasks counts (task_at tasks k).priority (length tasks)
