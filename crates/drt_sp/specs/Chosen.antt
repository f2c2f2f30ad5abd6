-- Tuples of leaves, one for each of the first tasks of an order.
use Rattle.std.specs.Prelude.{◌≡◌, ℕ, ◌≤◌, ◌<◌, ◌==◌, if◌then◌else◌, Option, None, Some, List, [], ◌∷◌, length, slice_index}
use Rattle.drt_model.specs.declared.tasks.Task.{Task}
use Rattle.drt_busy.specs.Choice.{graph_at}
use Rattle.drt_tree.specs.Tree.{Plain, children, walk}
use Rattle.drt_model.specs.Walk.{IsWalk}

-- It is a leaf of the forest, and its walk is one of task k.
pub record IsLeafOf (tasks : List Task) (f : Plain) (k leaf : ℕ) : Type 0 where
  pub task : k < length tasks
  pub node : leaf < length f.nodes
  pub leaf_is : children f leaf ≡ None
  pub walk_is : IsWalk (graph_at tasks k) (walk f leaf)

-- Each of the tuple is a leaf of the task at its place of the order.
pub record AreLeaves (tasks : List Task) (f : Plain) (order tuple : List ℕ) : Type 0 where
  pub few : length tuple ≤ length order
  pub each : (i : ℕ) → i < length tuple → IsLeafOf tasks f (slice_index order i) (slice_index tuple i)

-- The leaf of the tuple at the first place of the order that has task k.
unfoldable pub leaf_for : List ℕ → List ℕ → ℕ → Option ℕ
leaf_for order [] k = None
leaf_for [] (leaf ∷ tuple) k = None
leaf_for (j ∷ order) (leaf ∷ tuple) k = if j == k then Some leaf else leaf_for order tuple k
