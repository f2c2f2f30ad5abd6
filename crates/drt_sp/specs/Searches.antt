-- Searches of tasks' walks, and their leaves before a tree is made of them.
use Rattle.std.specs.Prelude.{◌≡◌, ℕ, ◌+◌, ◌≤◌, List, length, slice_index_or}
use Rattle.drt_effort.specs.Efforts.{most_budget}
use Rattle.drt_ahead.specs.Found.{AreThere}
use Rattle.drt_model.specs.Digraph.{Digraph, IsSoundGraph}
use Rattle.drt_graph.specs.Graphs.{graph_of}
use Rattle.drt_tree.specs.Leaf.{leaves_of}
use Rattle.drt_sp.specs.TaskTrees.{AreWalkLeaves}
use Rattle.drt_sp.specs.TreeClaims.{IsSpentWalkSearch}
use Rattle.drt_sp.specs.declared.ahead.EndsAhead.{EndsAhead}
use Rattle.drt_sp.specs.declared.trees.SearchEnd.{SearchEnd}
use Rattle.drt_sp.specs.declared.trees.SearchEnd.TheVariants as ends
use Rattle.drt_sp.specs.declared.trees.gathering.Leaves.{Leaves}

-- They are the leaves of the graph's tree: a label and a walk at each place, of the walks that no other walk dominates.
pub record AreLeavesOf (g : Digraph) (bound : ℕ) (leaves : Leaves) : Type 0 where
  pub sound : IsSoundGraph g
  pub same : length leaves.labels.items ≡ length leaves.walks.items
  pub few : length leaves.labels.items ≤ most_budget + 96
  pub leaves_are : AreWalkLeaves bound g (leaves_of leaves.labels.items leaves.walks.items)

-- How a search of a graph's walks ends, before a tree is made of it.
abbrev pub IsSearchEnd : Digraph → ℕ → ℕ → SearchEnd → Type 0
IsSearchEnd g bound budget (ends.Finished leaves) = AreLeavesOf g bound leaves
IsSearchEnd g bound budget (ends.Spent log) = IsSpentWalkSearch g bound budget log

-- So ends the search of the walks of the task at a place of an order.
abbrev pub IsEndAt : List Digraph → List ℕ → ℕ → ℕ → ℕ → SearchEnd → Type 0
IsEndAt graphs order bound budget place end = IsSearchEnd (graph_of graphs (slice_index_or order place 0)) bound budget end

-- Where an end was found ahead, so ends the search at its place.
abbrev pub AreEndsAhead : List Digraph → List ℕ → ℕ → ℕ → EndsAhead → Type 0
AreEndsAhead graphs order bound budget ahead = AreThere (λ i end. IsEndAt graphs order bound budget (ahead.from + i) end) ahead.found.items
