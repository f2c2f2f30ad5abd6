-- How much work a run does.
use Rattle.std.specs.Prelude.{◌≡◌, ℕ, ◌+◌, ◌*◌, ◌≤◌, ◌<◌, ◌⊎◌, IsTrue, false, if◌then◌else◌, Some, List, length, slice_get}
use Rattle.drt_label.specs.Algebra.{Algebra}
use Rattle.drt_worklist.specs.Places.{total}
use Rattle.drt_model.specs.Digraph.{out_degree}
use Rattle.drt_table.specs.Node.{NodeOf, is_kept}
use Rattle.drt_table.specs.declared.node.NodeState.{NodeState}
use Rattle.drt_table.specs.declared.node.NodeState.TheVariants.{Pending, Taken, Done}
use Rattle.drt_table.specs.Machine.{Setting, State, is_finished}
use Rattle.drt_table.specs.Walk.{IsWalkLabel}

-- The entries that brought a node to a state: one Take, and one Close.
abbrev pub state_entries : NodeState → ℕ
state_entries Pending = 0
state_entries (Taken w) = 1
state_entries Done = 2

-- The entries of a node: its Take, its offers and its Close. A node that was dropped has none.
abbrev pub node_entries : {L : Type 0} → NodeOf L → ℕ
node_entries n = if is_kept n then n.offered + state_entries n.state else 0

-- How many nodes are kept.
abbrev pub kept_count : {L : Type 0} → List (NodeOf L) → ℕ
kept_count nodes = total (λ n. if is_kept n then 1 else 0) nodes

-- Each label is added at most once, and the log has exactly the entries of the nodes.
pub record IsBounded {L : Type 0} (s : State L) : Type 0 where
  pub once : (i j : ℕ) (m n : NodeOf L) → slice_get s.nodes i ≡ Some m → slice_get s.nodes j ≡ Some n → m.label ≡ n.label → i ≡ j
  pub entries : length s.log ≡ total node_entries s.nodes

module _ {L : Type 0} (a : Algebra L) (t : Setting) where
  -- No vertex has more out-edges than the number.
  abbrev pub IsDegree : ℕ → Type 0
  IsDegree g = (v : ℕ) → v < length t.graph.vertices → out_degree t.graph v ≤ g

  -- Each kept node has at most g + 2 entries, and so the log at most g + 2 for each kept node, and fewer where the state isn't
  -- finished.
  pub record IsShort (g : ℕ) (s : State L) : Type 0 where
    pub each : (i : ℕ) (n : NodeOf L) → slice_get s.nodes i ≡ Some n → node_entries n ≤ g + 2
    pub log : length s.log ≤ kept_count s.nodes * (g + 2)
    pub unfinished : is_finished a t s ≡ false → length s.log < kept_count s.nodes * (g + 2)

  -- The labels of in-range walks have slots below `many`, and of two in one slot one dominates the other. For demand labels
  -- vertex and offset make a slot.
  pub record AreSlots (slot : L → ℕ) (many : ℕ) : Type 0 where
    pub within : (l : L) → IsWalkLabel a t l → slot l < many
    pub alone : (l m : L) → IsWalkLabel a t l → IsWalkLabel a t m → slot l ≡ slot m → IsTrue (a.dominates l m) ⊎ IsTrue (a.dominates m l)
