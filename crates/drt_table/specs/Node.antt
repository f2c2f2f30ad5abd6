-- A node of the table as a value.
use Rattle.std.specs.Prelude.{ℕ, Bool, true, false, ◌==◌, Option, None, is_none}
use Rattle.drt_table.specs.declared.node.NodeState.{NodeState}
use Rattle.drt_table.specs.declared.node.NodeState.TheVariants.{Pending, Taken, Done}

-- A node as the machine sees it: a label, the node that it extends, a count of offers, a state, and the node that dropped it.
pub record NodeOf (L : Type 0) : Type 0 where
  pub label : L
  pub parent : Option ℕ
  pub offered : ℕ
  pub state : NodeState
  pub dropped_by : Option ℕ

-- A node as the program has it: the node, and whether its spare is there.
pub record Held (L : Type 0) : Type 0 where
  pub node : NodeOf L
  pub spare : Bool

-- A node is kept where none dropped it.
abbrev pub is_kept : {L : Type 0} → NodeOf L → Bool
is_kept n = is_none n.dropped_by

-- The state is Pending.
abbrev pub is_pending_state : NodeState → Bool
is_pending_state Pending = true
is_pending_state (Taken w) = false
is_pending_state Done = false

-- The state is Taken by a worker.
abbrev pub is_taken_state : NodeState → Bool
is_taken_state Pending = false
is_taken_state (Taken w) = true
is_taken_state Done = false

-- A node is pending.
abbrev pub is_node_pending : {L : Type 0} → NodeOf L → Bool
is_node_pending n = is_pending_state n.state

-- A node is taken.
abbrev pub is_taken : {L : Type 0} → NodeOf L → Bool
is_taken n = is_taken_state n.state

-- The state is Taken by the worker.
abbrev pub is_taken_by : ℕ → NodeState → Bool
is_taken_by w Pending = false
is_taken_by w (Taken x) = x == w
is_taken_by w Done = false

-- The worker holds the node.
abbrev pub is_held_by : {L : Type 0} → ℕ → NodeOf L → Bool
is_held_by w n = is_taken_by w n.state

-- A new node with a label and a parent is pending, has offered nothing and is kept.
abbrev pub fresh : {L : Type 0} → L → Option ℕ → NodeOf L
fresh l p = record { label = l; parent = p; offered = 0; state = Pending; dropped_by = None }
