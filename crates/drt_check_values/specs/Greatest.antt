-- The greatest of some numbers, and the tree that keeps the greatest of each two.
use Rattle.std.specs.Prelude.{◌≡◌, ◌≢◌, ℕ, ◌+◌, ◌*◌, ◌<◌, ◌≤◌, max, List, [], ◌∷◌, length, slice_index_or}

-- The greatest of some numbers, and 0 where there is none.
unfoldable pub greatest : List ℕ → ℕ
greatest [] = 0
greatest (x ∷ xs) = max x (greatest xs)

-- In a list of nodes the parts of node j are the nodes 2·j and 2·j + 1. It has the greater one of their values.
abbrev pub HasGreaterParts : List ℕ → ℕ → Type 0
HasGreaterParts nodes j = slice_index_or nodes j 0 ≡ max (slice_index_or nodes (2 * j) 0) (slice_index_or nodes (2 * j + 1) 0)

-- So it is for each node from 1 on that has parts; node 0 stands for nothing.
abbrev pub AreGreatestJoined : List ℕ → Type 0
AreGreatestJoined nodes = (j : ℕ) → 1 ≤ j → 2 * j + 1 < length nodes → HasGreaterParts nodes j

-- It is so but for one node, whose parts' greater value is the greater one of its own and the given one.
pub record IsJoinedBut (nodes : List ℕ) (node value : ℕ) : Type 0 where
  pub inner : 1 ≤ node → 2 * node + 1 < length nodes
  pub others : (j : ℕ) → 1 ≤ j → 2 * j + 1 < length nodes → j ≢ node → HasGreaterParts nodes j
  pub here : 1 ≤ node → max (slice_index_or nodes node 0) value ≡ max (slice_index_or nodes (2 * node) 0) (slice_index_or nodes (2 * node + 1) 0)
