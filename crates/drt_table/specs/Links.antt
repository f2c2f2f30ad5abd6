-- The list of the kept nodes of each vertex, in descending order of offset.
use Rattle.std.specs.Prelude.{◌≡◌, ℕ, ◌+◌, ◌*◌, ◌-◌, ◌<◌, ◌≤◌, IsTrue, Option, Some, None, List, slice_get, slice_set, length}
use Rattle.drt_label.specs.Algebra.{Algebra}
use Rattle.drt_table.specs.Node.{Held, is_kept}

-- What the list of a vertex is in descending order of, for a node of an offset and a number: the offset, and the least number first
-- in a tie. (There are at most 2^32 nodes.)
unfoldable pub standing : ℕ → ℕ → ℕ
standing offset number = offset * 4294967296 + (4294967295 - number)

-- The number is below the other one, if there is one.
abbrev pub IsLinkBelow : Option ℕ → ℕ → Type 0
IsLinkBelow None r = Unit {0}
IsLinkBelow (Some m) r = r < m

module _ {L : Type 0} (a : Algebra L) where
  -- The standing of a node.
  abbrev pub rank : ℕ → Held L → ℕ
  rank i h = standing (a.offset h.node.label) i

  -- The node of that number is h, kept, and of the vertex.
  pub record IsKeptAt (nodes : List (Held L)) (v i : ℕ) (h : Held L) : Type 0 where
    pub at : slice_get nodes i ≡ Some h
    pub kept : IsTrue (is_kept h.node)
    pub vertex : a.vertex h.node.label ≡ v

  -- Of the kept nodes of the vertex with a rank below m, if given, i has the greatest rank.
  pub record IsGreatest (nodes : List (Held L)) (v : ℕ) (m : Option ℕ) (i : ℕ) : Type 0 where
    pub held : Held L
    pub is : IsKeptAt nodes v i held
    pub below : IsLinkBelow m (rank i held)
    pub most : (k : ℕ) (h : Held L) → IsKeptAt nodes v k h → IsLinkBelow m (rank k h) → rank k h ≤ rank i held

  -- The kept node of the vertex that comes next below a rank, or first where none is given.
  abbrev pub IsNext : List (Held L) → ℕ → Option ℕ → Option ℕ → Type 0
  IsNext nodes v m None = (k : ℕ) (h : Held L) → IsKeptAt nodes v k h → IsLinkBelow m (rank k h) → ⊥
  IsNext nodes v m (Some i) = IsGreatest nodes v m i

  -- There is a link for each node. The head of each vertex is its first kept node, and the link of a kept node is the next one of its
  -- vertex.
  pub record AreLinked (nodes : List (Held L)) (links heads : List (Option ℕ)) : Type 0 where
    pub few : length nodes ≤ 4294967296
    pub as_many : length links ≡ length nodes
    pub heads_ok : (v : ℕ) (o : Option ℕ) → slice_get heads v ≡ Some o → IsNext nodes v None o
    pub links_ok : (i : ℕ) (h : Held L) (o : Option ℕ) → slice_get nodes i ≡ Some h → IsTrue (is_kept h.node) → slice_get links i ≡ Some o → IsNext nodes (a.vertex h.node.label) (Some (rank i h)) o

  -- What comes next in the list of a vertex after a node of it, or first where there is none.
  abbrev pub IsAfter : List (Held L) → ℕ → Option ℕ → Option ℕ → Type 0
  IsAfter nodes v None next = IsNext nodes v None next
  IsAfter nodes v (Some p) next = (g : Held L) × IsKeptAt nodes v p g × IsNext nodes v (Some (rank p g)) next

  -- A node of the vertex with that offset, later than all, comes right after `last`: that one's offset is no less, and the offset of
  -- each node after it is.
  abbrev pub IsPlace : List (Held L) → ℕ → ℕ → Option ℕ → Type 0
  IsPlace nodes v offset None = (k : ℕ) (h : Held L) → IsKeptAt nodes v k h → a.offset h.node.label < offset
  IsPlace nodes v offset (Some p) =
      (g : Held L) × IsKeptAt nodes v p g × (offset ≤ a.offset g.node.label) × ((k : ℕ) (h : Held L) → IsKeptAt nodes v k h → rank k h < rank p g → a.offset h.node.label < offset)

  -- No kept node dominates another one.
  abbrev pub AreAlone : List (Held L) → Type 0
  AreAlone nodes = (i j : ℕ) (g h : Held L) → slice_get nodes i ≡ Some g → slice_get nodes j ≡ Some h → IsTrue (is_kept g.node) → IsTrue (is_kept h.node)
      → IsTrue (a.dominates g.node.label h.node.label) → i ≡ j

-- The link after a node of the list of a vertex, or its head where there is none.
abbrev pub IsLink : ℕ → Option ℕ → Option ℕ → List (Option ℕ) → List (Option ℕ) → Type 0
IsLink v None o links heads = slice_get heads v ≡ Some o
IsLink v (Some p) o links heads = slice_get links p ≡ Some o

-- The heads where `next` comes after `last` in the list of a vertex.
abbrev pub heads_after : ℕ → Option ℕ → Option ℕ → List (Option ℕ) → List (Option ℕ)
heads_after v None next heads = slice_set heads v next
heads_after v (Some p) next heads = heads

-- The links where `next` comes after `last`.
abbrev pub links_after : Option ℕ → Option ℕ → List (Option ℕ) → List (Option ℕ)
links_after None next links = links
links_after (Some p) next links = slice_set links p next
