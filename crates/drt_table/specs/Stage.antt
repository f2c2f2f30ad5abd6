-- Where a node stands as the program has it, and its spare.
use Rattle.std.specs.Prelude.{◌≡◌, ℕ, true, Option, None, Some, is_some, IfSome}
use Rattle.drt_table.specs.Node.{is_pending_state}
use Rattle.drt_table.specs.declared.node.NodeState.{NodeState}
use Rattle.drt_table.specs.declared.node.NodeState.TheVariants.{Pending, Taken, Done}
use Rattle.drt_table.specs.declared.node.Stage.{Stage}
use Rattle.drt_table.specs.declared.node.Stage.TheVariants.{Pending as Waits, Taken as IsHeld, Done as Ended, Dropped}

-- The state of a node: a dropped node is done.
abbrev pub state_at : Stage → NodeState
state_at Waits = Pending
state_at (IsHeld w) = Taken w
state_at Ended = Done
state_at (Dropped k) = Done

-- The later node that dropped a node, if any.
abbrev pub dropper : Stage → Option ℕ
dropper Waits = None
dropper (IsHeld w) = None
dropper Ended = None
dropper (Dropped k) = Some k

-- A spare, where it is there, is one of the node's label, and a pending node has its spare.
pub record IsSpare {L S : Type 0} (is : L → S → Type 0) (label : L) (spare : Option S) (state : NodeState) : Type 0 where
  pub same : IfSome spare (λ x. is label x)
  pub there : is_pending_state state ≡ true → is_some spare ≡ true
