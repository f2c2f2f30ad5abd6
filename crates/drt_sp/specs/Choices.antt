-- Trees of request functions in order of priority, and the walks that a tuple of their leaves names.
use Rattle.std.specs.Prelude.{◌≡◌, ℕ, ◌+◌, ◌≤◌, ◌<◌, ◌==◌, if◌then◌else◌, List, [], ◌∷◌, length, AllPairs, Some, slice_get}
use Rattle.std.specs.List.{range_with_len}
use Rattle.std.specs.List.Sorted.{IsPermutation}
use Rattle.drt_model.specs.declared.tasks.Task.{Task}
use Rattle.drt_model.specs.Digraph.{Digraph, vertex_count}
use Rattle.drt_model.specs.Walk.{deadline, wcet, IsWalk, request_of}
use Rattle.drt_busy.specs.Choice.{AreWalks, graph_at, requests, task_at}
use Rattle.drt_busy.specs.Response.{cut}
use Rattle.drt_steps.specs.Values.{value_at}
use Rattle.drt_tree.specs.Tree.{Plain, IsUnder, node_values_in, walk}

-- The tree stands for the walks of the graph up to the bound: each walk asks at no time for more than some leaf, and each leaf has
-- a walk of the graph, and asks for what that walk does.
pub record StandsFor (g : Digraph) (bound : ℕ) (f : Plain) (root : ℕ) : Type 0 where
  pub covers : (w : List ℕ) → IsWalk g w → (leaf : ℕ) × IsUnder f leaf root × ((t : ℕ) → 1 ≤ t → t ≤ bound → request_of g w t ≤ value_at (node_values_in f leaf) t)
  pub walks : (leaf : ℕ) → IsUnder f leaf root → IsWalk g (walk f leaf)
  pub asks : (leaf t : ℕ) → IsUnder f leaf root → 1 ≤ t → t ≤ bound → value_at (node_values_in f leaf) t ≡ request_of g (walk f leaf) t

-- The tree at each place stands for the walks of the task at that place of the order.
abbrev pub AreTrees : List Task → List ℕ → ℕ → Plain → List ℕ → Type 0
AreTrees tasks order bound f [] = Unit {0}
AreTrees tasks [] bound f (root ∷ roots) = ⊥
AreTrees tasks (k ∷ order) bound f (root ∷ roots) = StandsFor (graph_at tasks k) bound f root × AreTrees tasks order bound f roots

-- Vertex v of task k, which stands at place m of the order; its deadline is at most the bound.
pub record IsSubjectAt (tasks : List Task) (order : List ℕ) (bound m k v : ℕ) : Type 0 where
  pub at : slice_get order m ≡ Some k
  pub vertex : v < vertex_count (graph_at tasks k)
  pub near : deadline (graph_at tasks k) v ≤ bound

-- For all walks of the tasks some time up to the deadline of vertex v of task k has room for it and for what the walks of the tasks
-- of higher priority ask for before that time.
abbrev pub VertexPasses : List Task → ℕ → ℕ → Type 0
VertexPasses tasks k v =
    (walks : ℕ → List ℕ) → AreWalks tasks walks
    → (t : ℕ) × (1 ≤ t) × (t ≤ deadline (graph_at tasks k) v)
    × (wcet (graph_at tasks k) v + requests tasks walks (task_at tasks k).priority (length tasks) t ≤ t)

-- It is so for each vertex of the tasks at the first m places of the order.
abbrev pub FirstPass : List Task → List ℕ → ℕ → Type 0
FirstPass tasks order m = (i k v : ℕ) → i < m → slice_get order i ≡ Some k → v < vertex_count (graph_at tasks k) → VertexPasses tasks k v

-- The walk of each task that a tuple of leaves names, one leaf for each of the first tasks of the order, cut at d; no walk for the
-- other tasks.
unfoldable pub chosen : List Task → Plain → ℕ → List ℕ → List ℕ → ℕ → List ℕ
chosen tasks f d order [] k = []
chosen tasks f d [] (leaf ∷ tuple) k = []
chosen tasks f d (j ∷ order) (leaf ∷ tuple) k = if j == k then cut (graph_at tasks k) d (walk f leaf) else chosen tasks f d order tuple k
