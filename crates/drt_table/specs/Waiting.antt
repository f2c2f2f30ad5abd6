-- The queue of the pending nodes, and the list of the taken ones.
use Rattle.std.specs.Prelude.{◌≡◌, ℕ, ◌<◌, true, false, ◌&&◌, ◌==◌, nat_lt, if◌then◌else◌, Option, None, Some, List, length, slice_get}
use Rattle.std.specs.List.{Contains}
use Rattle.std.specs.Ordering.{nat_cmp, ordering_then}
use Rattle.std.specs.declared.cmp.Ordering.{Ordering}
use Rattle.std.specs.declared.cmp.Reverse.{Reverse}
use Rattle.drt_label.specs.Algebra.{Algebra}
use Rattle.drt_table.specs.Node.{Held, is_node_pending, is_taken}
use Rattle.drt_table.specs.Held.{held_offset}

-- A ticket has an offset and the number of a node.
abbrev pub Ticket : Type 0
Ticket = Reverse (ℕ × ℕ)

-- The ticket of a node of an offset.
abbrev pub ticket : ℕ → ℕ → Ticket
ticket offset number = record { 0 = (offset, number) }

-- Tickets compare by offset and then by number, the other way round: the greatest of some is the earliest.
abbrev pub ticket_cmp : Ticket → Ticket → Ordering
ticket_cmp x y = ordering_then (nat_cmp y.0.0 x.0.0) (nat_cmp y.0.1 x.0.1)

module _ {L : Type 0} (a : Algebra L) (nodes : List (Held L)) where
  -- Each ticket is that of a node, and each pending node below the number has its ticket there.
  pub record AreWaiting (tickets : List Ticket) (number : ℕ) : Type 0 where
    pub sound : (t : Ticket) → Contains tickets t → (h : Held L) × (slice_get nodes t.0.1 ≡ Some h) × (held_offset a h ≡ t.0.0)
    pub all : (k : ℕ) (h : Held L) → k < number → slice_get nodes k ≡ Some h → is_node_pending h.node ≡ true → Contains tickets (ticket (held_offset a h) k)

module _ {L : Type 0} (nodes : List (Held L)) where
  -- The first ticket, if there is one, is that of a pending node.
  abbrev pub IsFresh : List Ticket → Type 0
  IsFresh tickets = (t : Ticket) → slice_get tickets 0 ≡ Some t → (h : Held L) × (slice_get nodes t.0.1 ≡ Some h) × (is_node_pending h.node ≡ true)

  -- The first ticket is that of a node that doesn't wait.
  abbrev pub IsStale : List Ticket → Type 0
  IsStale tickets = (t : Ticket) × (slice_get tickets 0 ≡ Some t) × (h : Held L) × (slice_get nodes t.0.1 ≡ Some h) × (is_node_pending h.node ≡ false)

  -- Each number is that of a node, and each taken node has its number there.
  pub record AreHeld (taken : List ℕ) : Type 0 where
    pub within : (j k : ℕ) → slice_get taken j ≡ Some k → k < length nodes
    pub all : (k : ℕ) (h : Held L) → slice_get nodes k ≡ Some h → is_taken h.node ≡ true → Contains taken k

-- The better of the best node so far, with its offset, and another one: that of less offset, or of less number in a tie.
abbrev pub earlier : Option (ℕ × ℕ) → ℕ → ℕ → Option (ℕ × ℕ)
earlier None id offset = Some (id, offset)
earlier (Some b) id offset = if nat_lt offset b.1 then Some (id, offset) else if (offset == b.1) && nat_lt id b.0 then Some (id, offset) else Some b
