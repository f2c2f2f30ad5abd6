-- Claimed trees: for each task but the one of lowest priority, walks whose request functions are to stand for those of all its
-- walks, and pairs that join them by greatest values.
use Rattle.std.specs.Prelude.{◌≡◌, ℕ, ◌+◌, ◌-◌, ◌≤◌, ◌<◌, ◌⊎◌, ◌==◌, max, nat_lt, All, AllPairs, Any}
use Rattle.std.specs.Prelude.{List, [], ◌∷◌, ◌++◌, length, map, take, count_by, slice_get, slice_index_or, Some}
use Rattle.std.specs.List.Sorted.{IsPermutation}
use Rattle.drt_model.specs.declared.tasks.Task.{Task}
use Rattle.drt_model.specs.declared.tasks.Vertex.{Vertex}
use Rattle.drt_model.specs.Digraph.{Digraph, digraph_of, vertex_count, out_degree, edge_of}
use Rattle.drt_model.specs.Walk.{IsPath, last_of, span, request, request_of}
use Rattle.drt_claims.specs.declared.evidence.Pair.{Pair}
use Rattle.drt_claims.specs.declared.evidence.TreeClaim.{TreeClaim}

-- The greatest relative deadline of some vertices.
unfoldable pub latest_deadline : List Vertex → ℕ
latest_deadline [] = 0
latest_deadline (v ∷ vertices) = max v.deadline (latest_deadline vertices)

-- The greatest relative deadline of the set: request functions are looked at from 1 to it.
unfoldable pub greatest_deadline : List Task → ℕ
greatest_deadline [] = 0
greatest_deadline (t ∷ tasks) = max (latest_deadline t.vertices) (greatest_deadline tasks)

-- These are the tasks in order of priority, the highest (the least number) first.
pub record AreByPriority (tasks sorted : List Task) : Type 0 where
  pub permutation : IsPermutation tasks sorted
  pub rising : AllPairs (λ s t. s.priority < t.priority) sorted

-- It holds of the tasks in order of priority.
abbrev pub ByPriority : List Task → (List Task → Type 0) → Type 0
ByPriority tasks R = (sorted : List Task) × AreByPriority tasks sorted × R sorted

-- How many tasks have a higher priority than the number stands for.
abbrev pub higher_count : List Task → ℕ → ℕ
higher_count tasks priority = count_by (λ t. nat_lt t.priority priority) tasks

-- There is one tree fewer than tasks. The first belongs to the task of highest priority, and so on.
abbrev pub IsTreePerHigherTask : List Task → List TreeClaim → Type 0
IsTreePerHigherTask tasks trees = length trees + 1 ≡ length tasks

-- The graphs of those of the tasks, in order of priority, that have a tree.
abbrev pub tree_graphs : List Task → List TreeClaim → List Digraph
tree_graphs sorted trees = take (length trees) (map digraph_of sorted)

-- A walk of the graph: it has at least one vertex, follows edges, and spans less than the bound.
abbrev pub IsShortWalk : ℕ → Digraph → List ℕ → Type 0
IsShortWalk bound g [] = ⊥
IsShortWalk bound g (u ∷ vs) = (u < vertex_count g) × IsPath g u vs × (span g u vs < bound)

-- All walks of the tree are such.
abbrev pub HasShortWalks : ℕ → Digraph → TreeClaim → Type 0
HasShortWalks bound g tree = All (IsShortWalk bound g) tree.walks

-- The walk dominates the one that starts at u: it ends at the same vertex, spans no more, and asks at no time up to the bound for
-- less.
abbrev pub IsAbove : ℕ → Digraph → ℕ → List ℕ → List ℕ → Type 0
IsAbove bound g u vs [] = ⊥
IsAbove bound g u vs (x ∷ xs) =
    (last_of x xs ≡ last_of u vs) × (span g x xs ≤ span g u vs)
    × ((t : ℕ) → 1 ≤ t → t ≤ bound → request g u vs t ≤ request g x xs t)

-- The walk of each single vertex is dominated by a walk of the tree.
abbrev pub HasOpeningWalks : ℕ → Digraph → TreeClaim → Type 0
HasOpeningWalks bound g tree = (v : ℕ) → v < vertex_count g → Any (IsAbove bound g v []) tree.walks

-- The walk that starts at u, extended by the k-th edge out of its last vertex, spans as much as the bound or is dominated by a walk
-- of the tree.
abbrev pub IsExtendedWalk : ℕ → Digraph → TreeClaim → ℕ → List ℕ → ℕ → Type 0
IsExtendedWalk bound g tree u vs k =
    (bound ≤ span g u vs + (edge_of g (last_of u vs) k).sep)
    ⊎ Any (IsAbove bound g u (vs ++ (edge_of g (last_of u vs) k).to ∷ [])) tree.walks

-- It is so for the walk and each edge out of its last vertex.
abbrev pub IsClosedWalk : ℕ → Digraph → TreeClaim → List ℕ → Type 0
IsClosedWalk bound g tree [] = Unit {0}
IsClosedWalk bound g tree (u ∷ vs) = (k : ℕ) → k < out_degree g (last_of u vs) → IsExtendedWalk bound g tree u vs k

-- The walks of single vertices, and those of the tree extended by an edge, are dominated by walks of the tree, as far as they span
-- less than the bound.
abbrev pub CoversWalks : ℕ → Digraph → TreeClaim → Type 0
CoversWalks bound g tree = HasOpeningWalks bound g tree × All (IsClosedWalk bound g tree) tree.walks

-- How often the pairs name a node.
abbrev pub named : List Pair → ℕ → ℕ
named pairs n = count_by (λ p. p.left == n) pairs + count_by (λ p. p.right == n) pairs

-- There is a walk, and one pair fewer than walks. The walks are the nodes from 0 on and the pairs those after them; each pair names
-- two nodes below its own, and each node but the last one is named exactly once.
pub record IsTree (tree : TreeClaim) : Type 0 where
  pub some : 1 ≤ length tree.walks
  pub pairs : length tree.pairs + 1 ≡ length tree.walks
  pub left : (i : ℕ) (p : Pair) → slice_get tree.pairs i ≡ Some p → p.left < length tree.walks + i
  pub right : (i : ℕ) (p : Pair) → slice_get tree.pairs i ≡ Some p → p.right < length tree.walks + i
  pub once : (n : ℕ) → n + 1 < length tree.walks + length tree.pairs → named tree.pairs n ≡ 1

-- The values of some nodes at a time, followed by those of the pairs after them: each has the greater one of its two parts.
unfoldable pub joined : List ℕ → List Pair → List ℕ
joined values [] = values
joined values (p ∷ pairs) = joined (values ++ max (slice_index_or values p.left 0) (slice_index_or values p.right 0) ∷ []) pairs

-- The values of the tree's nodes at t: a walk has its request function's, and a pair the greater one of its parts'.
abbrev pub node_values : Digraph → TreeClaim → ℕ → List ℕ
node_values g tree t = joined (map (λ walk. request_of g walk t) tree.walks) tree.pairs

-- The last node of the tree.
abbrev pub root : TreeClaim → ℕ
root tree = length tree.walks + length tree.pairs - 1
