-- The samples that an arena keeps of its nodes' labels, where their kind isn't a chain.
use Rattle.std.specs.Prelude.{◌≡◌, ℕ, suc, ◌<◌, ◌≤◌, ◌==◌, false, Some, List, [], ◌∷◌, length, map, slice_get, take, if◌then◌else◌}
use Rattle.drt_columns.specs.Entries.{KeptLabel}
use Rattle.drt_columns.specs.Shelf.{Shelf, entries}
use Rattle.drt_label.specs.Algebra.{Algebra}
use Rattle.drt_table.specs.Node.{Held}

-- The labels of the nodes.
abbrev pub labels_of : {L : Type 0} → List (Held L) → List L
labels_of nodes = map (λ h. h.node.label) nodes

module _ {L : Type 0} (a : Algebra L) where
  -- The entries of a vertex's labels, in order, where the first label of the list has the number i.
  abbrev pub sampled_from : ℕ → ℕ → List L → List KeptLabel
  sampled_from v i [] = []
  sampled_from v i (l ∷ ls) = if a.vertex l == v then record { number = i; samples = a.samples l } ∷ sampled_from v (suc i) ls else sampled_from v (suc i) ls

  -- The shelf has an entry for each of the labels, with the label's place for its number.
  pub record AreSampled (labels : List L) (shelf : Shelf) : Type 0 where
    pub entries_are : (v : ℕ) → entries shelf v ≡ sampled_from v 0 labels
    pub count : shelf.count ≡ length labels

  -- The shelf has the samples of the nodes. It is for so many vertices, and has room for so many labels in all.
  pub record HasSamples (nodes : List (Held L)) (vertices room : ℕ) (shelf : Shelf) : Type 0 where
    pub sampled : AreSampled (labels_of nodes) shelf
    pub vertices_are : shelf.vertices ≡ vertices
    pub room_is : shelf.room ≡ room

  -- Where the kind of label isn't a chain, the shelf has the samples of the nodes.
  abbrev pub IsShelf : List (Held L) → ℕ → ℕ → Shelf → Type 0
  IsShelf nodes vertices room shelf = a.is_chain ≡ false → HasSamples nodes vertices room shelf

  -- The shelf has the samples of all nodes before that one, and can take those of that one, if there is one.
  pub record CanSample (nodes : List (Held L)) (number : ℕ) (shelf : Shelf) : Type 0 where
    pub sampled : AreSampled (take number (labels_of nodes)) shelf
    pub vertex : (h : Held L) → slice_get nodes number ≡ Some h → a.vertex h.node.label < shelf.vertices
    pub room : length nodes ≤ shelf.room
