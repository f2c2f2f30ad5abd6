-- What a call finds under the lock.
use Rattle.std.specs.Prelude.{◌≡◌, ℕ, ◌==◌, Bool, false, ◌&&◌, Option, None, Some, is_none, List, slice_get}
use Rattle.drt_label.specs.Algebra.{Algebra}
use Rattle.drt_worklist.specs.Places.{first}
use Rattle.drt_table.specs.Node.{NodeOf, is_held_by}
use Rattle.drt_shared.specs.declared.pass.Holding.{Holding}
use Rattle.drt_shared.specs.declared.reply.Found.{Found}
use Rattle.drt_shared.specs.declared.reply.SharedReply.{SharedReply}
use Rattle.drt_shared.specs.declared.reply.SharedReply.TheVariants.{Step, Halted, Strange}

module _ {L : Type 0} (a : Algebra L) where
  -- Each of the labels dominates the other.
  abbrev pub is_same : L → L → Bool
  is_same x y = a.dominates x y && a.dominates y x

  -- The label is that of what the pass holds.
  abbrev pub is_label_of : Option (Holding L) → L → Bool
  is_label_of None l = false
  is_label_of (Some h) l = is_same h.label l

  -- What is found of a node.
  abbrev pub found_node : Option (Holding L) → ℕ → Option (NodeOf L) → Found
  found_node o id None = record { held = Some id; offered = 0; same = false }
  found_node o id (Some n) = record { held = Some id; offered = n.offered; same = is_label_of o n.label }

  -- What is found by the number of the node that the table says the worker holds.
  abbrev pub found_at : List (NodeOf L) → Option (Holding L) → Option ℕ → Found
  found_at nodes o None = record { held = None; offered = 0; same = false }
  found_at nodes o (Some id) = found_node o id (slice_get nodes id)

  -- What a call finds for a worker.
  abbrev pub found_for : List (NodeOf L) → ℕ → Option (Holding L) → Found
  found_for nodes w o = found_at nodes o (first (is_held_by w) nodes)

-- The number is that one.
abbrev pub is_that_node : ℕ → Option ℕ → Bool
is_that_node k None = false
is_that_node k (Some j) = j == k

-- What was found is what the pass holds.
abbrev pub is_expected : {L : Type 0} → Option (Holding L) → Found → Bool
is_expected None f = is_none f.held
is_expected (Some h) f = is_that_node h.node f.held && ((f.offered == h.offered) && f.same)

-- A strange answer tells something that differs from what the pass holds.
abbrev pub DiffersIfStrange : {L : Type 0} → Option (Holding L) → SharedReply → Type 0
DiffersIfStrange o (Step r) = Unit {0}
DiffersIfStrange o Halted = Unit {0}
DiffersIfStrange o (Strange f) = is_expected o f ≡ false

-- And it tells what is found among these nodes for a worker whose pass holds that.
abbrev pub TellsFound : {L : Type 0} → Algebra L → List (NodeOf L) → ℕ → Option (Holding L) → SharedReply → Type 0
TellsFound a nodes w o (Step r) = Unit {0}
TellsFound a nodes w o Halted = Unit {0}
TellsFound a nodes w o (Strange f) = f ≡ found_for a nodes w o
