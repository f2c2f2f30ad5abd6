-- The leaves below the nodes of a claimed tree, and where they stand in the order of all leaves below its root.
use Rattle.std.specs.Prelude.{◌≡◌, ℕ, ◌+◌, ◌<◌, List, [], ◌∷◌, ◌++◌, length, map, take, drop, slice_index_or}
use Rattle.std.specs.List.{range_with_len}
use Rattle.drt_claims.specs.declared.evidence.Pair.{Pair}
use Rattle.drt_claims.specs.declared.evidence.TreeClaim.{TreeClaim}
use Rattle.drt_claims.specs.Trees.{root}

-- What some nodes have, followed by what the pairs after them have: each what its two parts have, joined.
unfoldable pub grown_items : {A : Type 0} → A → (A → A → A) → List A → List Pair → List A
grown_items none join items [] = items
grown_items none join items (p ∷ pairs) = grown_items none join (items ++ join (slice_index_or items p.left none) (slice_index_or items p.right none) ∷ []) pairs

-- The leaves below each node, from the left to the right: a walk is its own leaf, by its number, and a pair has those of its left
-- part and then those of its right one.
abbrev pub leaf_lists : TreeClaim → List (List ℕ)
leaf_lists tree = grown_items [] (λ xs ys. xs ++ ys) (map (λ w. w ∷ []) (range_with_len 0 (length tree.walks))) tree.pairs

-- The leaves below node n.
abbrev pub leaves_below : TreeClaim → ℕ → List ℕ
leaves_below tree n = slice_index_or (leaf_lists tree) n []

-- The leaves below the root, which are all leaves.
abbrev pub leaf_order : TreeClaim → List ℕ
leaf_order tree = leaves_below tree (root tree)

-- How many nodes the tree has.
abbrev pub node_count : TreeClaim → ℕ
node_count tree = length tree.walks + length tree.pairs

-- The numbers are how many leaves each node has below it.
abbrev pub AreSizes : TreeClaim → List ℕ → Type 0
AreSizes tree sizes = sizes ≡ map length (leaf_lists tree)

-- From the place on, the order of all leaves has those below node n.
abbrev pub IsFirstLeaf : TreeClaim → ℕ → ℕ → Type 0
IsFirstLeaf tree n first = take (length (leaves_below tree n)) (drop first (leaf_order tree)) ≡ leaves_below tree n

-- The numbers are, for each node, such a place.
pub record AreFirsts (tree : TreeClaim) (firsts : List ℕ) : Type 0 where
  pub count : length firsts ≡ node_count tree
  pub each : (n : ℕ) → n < node_count tree → IsFirstLeaf tree n (slice_index_or firsts n 0)
