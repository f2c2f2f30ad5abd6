-- The leaves of a search's kept nodes, as they are gathered.
use Rattle.std.specs.Prelude.{◌≡◌, ℕ, zero, suc, ◌≤◌, ◌⊎◌, Some, List, [], ◌∷◌, ◌++◌, length, slice_get, false}
use Rattle.std.specs.declared.alloc.Global.{Global}
use Rattle.std.specs.declared.sync.Arc.{Arc}
use Rattle.drt_request.specs.Request.{Request, request_algebra}
use Rattle.drt_table.specs.Cover.{KeptAt}
use Rattle.drt_table.specs.Machine.{Setting}
use Rattle.drt_table.specs.Node.{NodeOf, is_kept}
use Rattle.drt_table.specs.View.{View, setting_of, state_of}
use Rattle.drt_table.specs.Walk.{IsWalkOf}
use Rattle.drt_tree.specs.Leaf.{leaves_of}
use Rattle.drt_tree.specs.declared.leaf.Leaf.{Leaf}

-- The leaf has the function of the node's label, and a walk of the search with that label.
pub record IsLeafOfNode (t : Setting) (n : NodeOf Request) (l : Leaf) : Type 0 where
  pub steps : l.steps ≡ n.label.values
  pub walk : IsWalkOf request_algebra t l.walk n.label

-- The leaves of the kept ones of the first nodes, in order.
abbrev pub AreLeavesGathered : Setting → List (NodeOf Request) → ℕ → List Leaf → Type 0
AreLeavesGathered t nodes zero ls = ls ≡ []
AreLeavesGathered t nodes (suc i) ls =
    ((n : NodeOf Request) × (slice_get nodes i ≡ Some n) × (is_kept n ≡ false) × AreLeavesGathered t nodes i ls)
    ⊎ ((n : NodeOf Request) × (l : Leaf) × (before : List Leaf) × KeptAt request_algebra t nodes i n × IsLeafOfNode t n l × (ls ≡ before ++ l ∷ []) × AreLeavesGathered t nodes i before)

-- The labels and the walks are the leaves of the kept ones of a table's first i nodes.
pub record AreFirstLeaves (v : View Request) (i : ℕ) (labels : List (Arc Request Global)) (walks : List (List ℕ)) : Type 0 where
  pub same : length labels ≡ length walks
  pub few : length labels ≤ i
  pub gathered : AreLeavesGathered (setting_of v) (state_of v).nodes i (leaves_of labels walks)
