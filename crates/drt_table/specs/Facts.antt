-- What each step of the machine keeps.
use Rattle.std.specs.Prelude.{◌≡◌, ℕ, ◌+◌, ◌<◌, ◌≤◌, ◌⊎◌, IsTrue, Some, None, slice_get, List, length}
use Rattle.drt_label.specs.Algebra.{Algebra}
use Rattle.drt_model.specs.Digraph.{out_degree}
use Rattle.drt_table.specs.Node.{NodeOf, is_kept, is_node_pending, is_taken}
use Rattle.drt_table.specs.declared.node.NodeState.TheVariants.{Done}
use Rattle.drt_table.specs.Machine.{Setting, opening_label, in_range, extended, offset, separation}
use Rattle.drt_table.specs.Walk.{IsWalkLabel}
use Rattle.drt_table.specs.Cover.{KeptAt, IsCovered}

module _ {L : Type 0} (a : Algebra L) (t : Setting) where
  -- Node d comes later than n, which is node i, and dominates it.
  pub record IsDropper (nodes : List (NodeOf L)) (i : ℕ) (n : NodeOf L) (d : ℕ) : Type 0 where
    pub by : NodeOf L
    pub at : slice_get nodes d ≡ Some by
    pub later : i < d
    pub dominates : IsTrue (a.dominates by.label n.label)

  -- There is a node with the label.
  pub record HasNode (nodes : List (NodeOf L)) (l : L) : Type 0 where
    pub number : ℕ
    pub node : NodeOf L
    pub at : slice_get nodes number ≡ Some node
    pub label : node.label ≡ l

  -- The node has the opening label of a vertex.
  pub record IsRoot (n : NodeOf L) : Type 0 where
    pub vertex : ℕ
    pub within : vertex < length t.graph.vertices
    pub label : n.label ≡ opening_label a t vertex

  -- n, which is node i, extends the earlier node p by an edge.
  pub record IsChild (nodes : List (NodeOf L)) (i : ℕ) (n : NodeOf L) (p : ℕ) : Type 0 where
    pub parent : NodeOf L
    pub edge : ℕ
    pub at : slice_get nodes p ≡ Some parent
    pub earlier : p < i
    pub within : edge < out_degree t.graph (a.vertex parent.label)
    pub label : n.label ≡ extended a t parent.label edge

  -- What holds of the nodes after any run, as to labels, drops and offers.
  pub record Facts (nodes : List (NodeOf L)) : Type 0 where
    -- each node has the label of its walk, and that walk is in range
    pub walks : (i : ℕ) (n : NodeOf L) → slice_get nodes i ≡ Some n → IsWalkLabel a t n.label
    -- no kept node dominates another kept node
    pub alone : (i j : ℕ) (m n : NodeOf L) → KeptAt a t nodes i m → KeptAt a t nodes j n → IsTrue (a.dominates m.label n.label) → i ≡ j
    -- a dropped node names a later node that dominates it
    pub dropped : (i : ℕ) (n : NodeOf L) (d : ℕ) → slice_get nodes i ≡ Some n → n.dropped_by ≡ Some d → IsDropper nodes i n d
    -- no node has offered more than its edges
    pub offered : (i : ℕ) (n : NodeOf L) → slice_get nodes i ≡ Some n → n.offered ≤ out_degree t.graph (a.vertex n.label)
    -- for each node and each out-edge below its count of offers, the extension is out of range or dominated by a kept node
    pub covered : (i : ℕ) (n : NodeOf L) (k : ℕ) → slice_get nodes i ≡ Some n → k < n.offered → IsTrue (in_range a t (extended a t n.label k)) → IsCovered a t nodes (extended a t n.label k)
    -- a node that is done and kept has offered all its edges
    pub done : (i : ℕ) (n : NodeOf L) → KeptAt a t nodes i n → n.state ≡ Done → n.offered ≡ out_degree t.graph (a.vertex n.label)
    -- each opening label in range has a node
    pub opened : (v : ℕ) → v < length t.graph.vertices → IsTrue (in_range a t (opening_label a t v)) → HasNode nodes (opening_label a t v)
    -- a node without a parent has an opening label, and another one extends its parent
    pub roots : (i : ℕ) (n : NodeOf L) → slice_get nodes i ≡ Some n → n.parent ≡ None → IsRoot n
    pub children : (i : ℕ) (n : NodeOf L) (p : ℕ) → slice_get nodes i ≡ Some n → n.parent ≡ Some p → IsChild nodes i n p

  -- A node was taken where it is taken, or is done and kept.
  abbrev pub WasTaken : NodeOf L → Type 0
  WasTaken n = IsTrue (is_taken n) ⊎ ((n.state ≡ Done) × IsTrue (is_kept n))

  -- What holds of the nodes after any run, as to the order in which they are taken.
  pub record Order (nodes : List (NodeOf L)) : Type 0 where
    -- the offset of each node that was taken is at most that of each pending node
    pub before_pending : (i j : ℕ) (m n : NodeOf L) → slice_get nodes i ≡ Some m → slice_get nodes j ≡ Some n → WasTaken m → IsTrue (is_node_pending n) → offset a t m ≤ offset a t n
    -- the offset of each node that was taken is below that of each taken node plus the least separation
    pub near_taken : (i j : ℕ) (m n : NodeOf L) → slice_get nodes i ≡ Some m → slice_get nodes j ≡ Some n → WasTaken m → IsTrue (is_taken n) → offset a t m < offset a t n + separation t
    -- each taken node is kept, and so is each pending node
    pub taken_kept : (i : ℕ) (n : NodeOf L) → slice_get nodes i ≡ Some n → IsTrue (is_taken n) → IsTrue (is_kept n)
    pub pending_kept : (i : ℕ) (n : NodeOf L) → slice_get nodes i ≡ Some n → IsTrue (is_node_pending n) → IsTrue (is_kept n)
    -- a pending node has offered nothing, and a dropped node neither: it was never taken
    pub pending_idle : (i : ℕ) (n : NodeOf L) → slice_get nodes i ≡ Some n → IsTrue (is_node_pending n) → n.offered ≡ 0
    pub dropped_idle : (i : ℕ) (n : NodeOf L) (d : ℕ) → slice_get nodes i ≡ Some n → n.dropped_by ≡ Some d → n.offered ≡ 0
