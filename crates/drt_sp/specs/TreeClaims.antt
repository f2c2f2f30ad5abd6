-- What the search of a task's walks gives for a dossier: the tree as it is written.
use Rattle.std.specs.Prelude.{◌≡◌, ℕ, ◌+◌, ◌-◌, ◌≤◌, ◌<◌, Option, None, Some, List, [], ◌∷◌, length, slice_get, slice_index_or, false, All}
use Rattle.drt_model.specs.Digraph.{Digraph}
use Rattle.drt_request.specs.Request.{request_algebra}
use Rattle.drt_steps.specs.Values.{value_at}
use Rattle.drt_table.specs.Machine.{Setting, IsRun, replay, is_finished, search_of}
use Rattle.drt_table.specs.declared.step.Entry.{Entry}
use Rattle.drt_tree.specs.Tree.{Plain, children, node_values_in}
use Rattle.drt_claims.specs.Proofs.{node_parts}
use Rattle.drt_claims.specs.Trees.{CoversWalks, HasShortWalks, IsAbove, IsShortWalk, IsTree, node_values, root}
use Rattle.drt_claims.specs.declared.evidence.TreeClaim.{TreeClaim}
use Rattle.drt_sp.specs.Written.{AreWalksInOrder, HasHalves}

-- The children of a node of the forest, numbered from low on.
abbrev pub lowered : ℕ → Option (ℕ × ℕ) → Option (ℕ × ℕ)
lowered low None = None
lowered low (Some p) = Some (p.0 - low, p.1 - low)

-- The claim is the tree of the forest whose nodes have the numbers from low on, up to its root.
pub record IsClaimOf (g : Digraph) (bound : ℕ) (f : Plain) (low top : ℕ) (claim : TreeClaim) : Type 0 where
  pub root_is : low + root claim ≡ top
  pub within : top < length f.nodes
  pub parts : (n : ℕ) → n ≤ root claim → node_parts claim n ≡ lowered low (children f (low + n))
  pub above : (n l r : ℕ) → n ≤ root claim → children f (low + n) ≡ Some (l, r) → (low ≤ l) × (low ≤ r) × (l < low + n) × (r < low + n)
  pub values : (n t : ℕ) → n ≤ root claim → 1 ≤ t → t ≤ bound → slice_index_or (node_values g claim t) n 0 ≡ value_at (node_values_in f (low + n)) t

-- The walk and another one have the same label up to the bound: each dominates the other.
abbrev pub HaveOneLabel : ℕ → Digraph → List ℕ → List ℕ → Type 0
HaveOneLabel bound g [] other = ⊥
HaveOneLabel bound g (u ∷ vs) [] = ⊥
HaveOneLabel bound g (u ∷ vs) (x ∷ xs) = IsAbove bound g u vs (x ∷ xs) × IsAbove bound g x xs (u ∷ vs)

-- No walk that spans less than the bound dominates this one, but those that have its label.
abbrev pub IsNonDominatedWalk : ℕ → Digraph → List ℕ → Type 0
IsNonDominatedWalk bound g [] = ⊥
IsNonDominatedWalk bound g (u ∷ vs) = (w : List ℕ) → IsShortWalk bound g w → IsAbove bound g u vs w → HaveOneLabel bound g (u ∷ vs) w

-- The tree has walks whose labels no other walk's dominates, and one for each such label.
pub record IsExactTree (bound : ℕ) (g : Digraph) (claim : TreeClaim) : Type 0 where
  pub alone : All (IsNonDominatedWalk bound g) claim.walks
  pub each : (w : List ℕ) → IsShortWalk bound g w → IsNonDominatedWalk bound g w → (i : ℕ) × (x : List ℕ) × (slice_get claim.walks i ≡ Some x) × HaveOneLabel bound g w x
  pub once : (i j : ℕ) (w x : List ℕ) → slice_get claim.walks i ≡ Some w → slice_get claim.walks j ≡ Some x → HaveOneLabel bound g w x → i ≡ j

-- What the rules on trees ask of a claim, that its labels are exactly the non-dominated ones, and that it is the halved tree over its walks
-- in their order.
pub record IsTreeOf (bound : ℕ) (g : Digraph) (claim : TreeClaim) : Type 0 where
  pub short : HasShortWalks bound g claim
  pub covers : CoversWalks bound g claim
  pub tree : IsTree claim
  pub exact : IsExactTree bound g claim
  pub order : AreWalksInOrder bound g claim
  pub halves : HasHalves claim

-- The search of the graph's walks spent the budget: the log is a run of that many steps which isn't finished.
pub record IsSpentWalkSearch (g : Digraph) (bound budget : ℕ) (log : List Entry) : Type 0 where
  pub run : IsRun request_algebra (search_of g bound budget) log
  pub spent : length log ≡ budget
  pub unfinished : is_finished request_algebra (search_of g bound budget) (replay request_algebra (search_of g bound budget) log) ≡ false
