-- What is kept of a table of labels, and the entries of a vertex.
use Rattle.std.specs.Prelude.{ℕ, ◌==◌, List, [], ◌∷◌, ◌++◌, if◌then◌else◌}
use Rattle.drt_columns.specs.Entries.{KeptLabel}

-- The number of vertices and of labels, with room for how many, and blocks of entries, each of one vertex, its owner.
pub record Shelf : Type 0 where
  pub vertices : ℕ
  pub count : ℕ
  pub room : ℕ
  pub owners : List ℕ
  pub blocks : List (List KeptLabel)

-- The entries in the blocks of a vertex, one block after the other.
abbrev pub entries_in : ℕ → List ℕ → List (List KeptLabel) → List KeptLabel
entries_in vertex [] blocks = []
entries_in vertex (owner ∷ owners) [] = []
entries_in vertex (owner ∷ owners) (block ∷ blocks) =
    if owner == vertex then block ++ entries_in vertex owners blocks else entries_in vertex owners blocks

-- The entries of a vertex, in the order in which they came.
abbrev pub entries : Shelf → ℕ → List KeptLabel
entries shelf vertex = entries_in vertex shelf.owners shelf.blocks
