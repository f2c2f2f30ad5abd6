-- How a search of a task's walks becomes a tree of the forest and a claim.
use Rattle.std.specs.Prelude.{◌≡◌, ℕ, ◌+◌, ◌-◌, ◌*◌, ◌≤◌, Option, None, Some, List, ◌∷◌, length, map, slice_get, All, Any}
use Rattle.std.specs.List.{range_with_len}
use Rattle.drt_model.specs.Numbers.{most_time}
use Rattle.drt_model.specs.Digraph.{Digraph}
use Rattle.drt_steps.specs.Values.{value_at}
use Rattle.drt_tree.specs.Tree.{Plain, Grows, children, leaves, walk}
use Rattle.drt_tree.specs.declared.leaf.Leaf.{Leaf}
use Rattle.drt_sp.specs.Choices.{StandsFor}
use Rattle.drt_claims.specs.Ranges.{IsInRangeTree}
use Rattle.drt_claims.specs.Trees.{IsAbove, IsShortWalk}
use Rattle.drt_claims.specs.declared.evidence.Pair.{Pair}
use Rattle.drt_sp.specs.TreeClaims.{HaveOneLabel, IsClaimOf, IsNonDominatedWalk, IsSpentWalkSearch, IsTreeOf}
use Rattle.drt_sp.specs.declared.trees.TaskTree.{TaskTree}
use Rattle.drt_sp.specs.declared.trees.TreeSearch.{TreeSearch}
use Rattle.drt_sp.specs.declared.trees.TreeSearch.TheVariants.{Spent, Tree}
use Rattle.drt_model.specs.Walk.{request_of}

-- The walk spans less than the bound, and the function is what it asks for.
pub record IsWalkLeaf (bound : ℕ) (g : Digraph) (l : Leaf) : Type 0 where
  pub short : IsShortWalk bound g l.walk
  pub long : length l.steps ≡ bound
  pub values : (t : ℕ) → 1 ≤ t → t ≤ bound → value_at l.steps t ≡ request_of g l.walk t

-- Leaves of walks that no other walk dominates, one for each label of such a walk.
pub record AreWalkLeaves (bound : ℕ) (g : Digraph) (ls : List Leaf) : Type 0 where
  pub each : All (IsWalkLeaf bound g) ls
  pub alone : All (λ l. IsNonDominatedWalk bound g l.walk) ls
  pub covers : (u : ℕ) (vs : List ℕ) → IsShortWalk bound g (u ∷ vs) → Any (λ l. IsAbove bound g u vs l.walk) ls
  pub once : (i j : ℕ) (x y : Leaf) → slice_get ls i ≡ Some x → slice_get ls j ≡ Some y → HaveOneLabel bound g x.walk y.walk → i ≡ j

-- The walks of so many nodes from low on.
abbrev pub walks_from : Plain → ℕ → ℕ → List (List ℕ)
walks_from f low count = map (λ k. walk f k) (range_with_len low count)

-- Children as a pair, numbered from low on.
abbrev pub pair_of : ℕ → Option (ℕ × ℕ) → Pair
pair_of low None = record { left = 0; right = 0 }
pair_of low (Some p) = record { left = p.0 - low; right = p.1 - low }

-- The children of so many nodes from first on, numbered from low on.
abbrev pub pairs_from : Plain → ℕ → ℕ → ℕ → List Pair
pairs_from f low first count = map (λ k. pair_of low (children f k)) (range_with_len first count)

-- The search put this tree of the graph's walks behind the nodes of the forest.
pub record IsTaskTree (g : Digraph) (bound : ℕ) (old new : Plain) (tree : TaskTree) : Type 0 where
  pub grows : Grows old new
  pub begins : tree.low ≡ length old.nodes
  pub ends : length new.nodes ≡ tree.top + 1
  pub functions : All (λ xs. length xs ≡ bound) new.pool
  pub room : length new.nodes ≤ length old.nodes + 2 * (most_time + 96)
  pub stands : StandsFor g bound new tree.top
  pub count : leaves new tree.top ≡ length tree.claim.walks
  pub claim : IsClaimOf g bound new tree.low tree.top tree.claim
  pub rules : IsTreeOf bound g tree.claim
  pub range : IsInRangeTree tree.claim

-- How a search of a graph's walks ends.
abbrev pub IsTreeSearch : Digraph → ℕ → ℕ → Plain → Plain → TreeSearch → Type 0
IsTreeSearch g bound budget old new (Tree tree) = IsTaskTree g bound old new tree
IsTreeSearch g bound budget old new (Spent log) = IsSpentWalkSearch g bound budget log
