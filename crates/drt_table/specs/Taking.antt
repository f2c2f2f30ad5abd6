-- The step Take, by its reply.
use Rattle.std.specs.Prelude.{ℕ, ◌+◌, Bool, true, false, nat_lt, if◌then◌else◌, Option, Some, None, List, slice_get}
use Rattle.drt_label.specs.Algebra.{Algebra}
use Rattle.drt_table.specs.Node.{Held}
use Rattle.drt_table.specs.Held.{held_offset}
use Rattle.drt_table.specs.declared.step.TableReply.{TableReply}
use Rattle.drt_table.specs.declared.step.TableReply.TheVariants.{Taken, Busy, Finished, Added, Dominated, OutOfRange, Closed, Spent}

-- The reply to Take, by the next node, the holder, whether the log is full, and whether the next node is soon enough.
abbrev pub take_reply : Option ℕ → Option ℕ → Bool → Bool → TableReply
take_reply None None full soon = Finished
take_reply None (Some h) full soon = if full then Spent else Busy h
take_reply (Some k) None full soon = if full then Spent else Taken k
take_reply (Some k) (Some h) full soon = if full then Spent else if soon then Taken k else Busy h

-- The node that a reply says was taken.
abbrev pub taken_node : TableReply → Option ℕ
taken_node (Taken k) = Some k
taken_node (Busy k) = None
taken_node Finished = None
taken_node (Added k) = None
taken_node (Dominated k) = None
taken_node OutOfRange = None
taken_node Closed = None
taken_node Spent = None

module _ {L : Type 0} (a : Algebra L) (nodes : List (Held L)) (separation : ℕ) where
  -- The offset of a node's label, or 0 where there is no node.
  abbrev pub offset_of : Option (Held L) → ℕ
  offset_of None = 0
  offset_of (Some h) = held_offset a h

  -- The next node's offset is below the holder's plus the least separation.
  abbrev pub is_soon : Option ℕ → Option ℕ → Bool
  is_soon None o = false
  is_soon (Some k) None = true
  is_soon (Some k) (Some h) = nat_lt (offset_of (slice_get nodes k)) (offset_of (slice_get nodes h) + separation)
