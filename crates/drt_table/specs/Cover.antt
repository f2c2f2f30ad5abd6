-- What a finished table tells of all walks.
use Rattle.std.specs.Prelude.{◌≡◌, ℕ, IsTrue, Some, slice_get, List}
use Rattle.drt_label.specs.Algebra.{Algebra}
use Rattle.drt_table.specs.Node.{NodeOf, is_kept}
use Rattle.drt_table.specs.Machine.{Setting}
use Rattle.drt_table.specs.Walk.{IsWalkLabel}

module _ {L : Type 0} (a : Algebra L) (t : Setting) where
  -- The node of that number is n, and it is kept.
  pub record KeptAt (nodes : List (NodeOf L)) (k : ℕ) (n : NodeOf L) : Type 0 where
    pub at : slice_get nodes k ≡ Some n
    pub kept : IsTrue (is_kept n)

  -- A kept node dominates the label.
  pub record IsCovered (nodes : List (NodeOf L)) (l : L) : Type 0 where
    pub by : ℕ
    pub node : NodeOf L
    pub kept : KeptAt nodes by node
    pub dominates : IsTrue (a.dominates node.label l)

  -- The nodes cover the task: the label of every in-range walk is dominated by that of a kept node.
  abbrev pub Covers : List (NodeOf L) → Type 0
  Covers nodes = (l : L) → IsWalkLabel a t l → IsCovered nodes l

  -- The label is that of an in-range walk, and no different label of an in-range walk dominates it.
  pub record IsNonDominated (l : L) : Type 0 where
    pub walk : IsWalkLabel a t l
    pub alone : (m : L) → IsWalkLabel a t m → IsTrue (a.dominates m l) → m ≡ l

  -- The nodes cover the task, and the kept labels are exactly the non-dominated labels of in-range walks, each once.
  pub record IsFront (nodes : List (NodeOf L)) : Type 0 where
    pub covers : Covers nodes
    pub sound : (k : ℕ) (n : NodeOf L) → KeptAt nodes k n → IsNonDominated n.label
    pub complete : (l : L) → IsNonDominated l → (k : ℕ) × (n : NodeOf L) × KeptAt nodes k n × (n.label ≡ l)
    pub once : (i j : ℕ) (m n : NodeOf L) → KeptAt nodes i m → KeptAt nodes j n → m.label ≡ n.label → i ≡ j
