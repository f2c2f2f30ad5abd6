-- What the table sees of its arena, and how the arena finds its nodes.
use Rattle.std.specs.Prelude.{◌≡◌, ℕ, Option, List, length}
use Rattle.std.specs.BinaryHeap.{IsHeap}
use Rattle.drt_label.specs.Algebra.{Algebra}
use Rattle.drt_table.specs.Node.{Held}
use Rattle.drt_table.specs.Links.{AreLinked}
use Rattle.drt_table.specs.Waiting.{Ticket, ticket_cmp, AreWaiting, IsFresh, AreHeld}

-- An arena holds nodes of a number of vertices, and has room for so many nodes in all.
pub record Stock (L : Type 0) : Type 0 where
  pub nodes : List (Held L)
  pub vertices : ℕ
  pub room : ℕ

-- The nodes are these now, and nothing else has changed.
pub record HasNodes {L : Type 0} (old new : Stock L) (nodes : List (Held L)) : Type 0 where
  pub nodes_are : new.nodes ≡ nodes
  pub vertices : new.vertices ≡ old.vertices
  pub room : new.room ≡ old.room

-- The lists of kept nodes, the queue of pending ones and the list of taken ones are those of the nodes.
pub record AreArranged {L : Type 0} (a : Algebra L) (nodes : List (Held L)) (links heads : List (Option ℕ)) (tickets : List Ticket) (taken : List ℕ) : Type 0 where
  pub linked : AreLinked a nodes links heads
  pub waiting : AreWaiting a nodes tickets (length nodes)
  pub fresh : IsFresh nodes tickets
  pub order : IsHeap ticket_cmp tickets
  pub held : AreHeld nodes taken
