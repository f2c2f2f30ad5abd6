-- How a tree over some leaves lies in a forest.
use Rattle.std.specs.Prelude.{◌≡◌, ℕ, ◌+◌, ◌<◌, ◌≤◌, None, Some, List, length}
use Rattle.std.specs.List.Sorted.{IsPermutation, IsSortedBy}
use Rattle.drt_tree.specs.declared.leaf.Leaf.{Leaf}
use Rattle.drt_tree.specs.Leaf.{is_leaf_before}
use Rattle.drt_tree.specs.Tree.{Plain, Grows, IsForest, children, leaves, with_leaves}

-- A tree without its functions: one leaf, or a pair of two trees.
pub data Shape : Type 0 where
  one : Shape
  two : Shape → Shape → Shape

-- The number of leaves of a tree.
abbrev pub parts : Shape → ℕ
parts one = 1
parts (two l r) = parts l + parts r

-- The number of pairs of a tree.
abbrev pub pairs : Shape → ℕ
pairs one = 0
pairs (two l r) = pairs l + pairs r + 1

-- The leaves of each pair were halved: its left tree has as many as its right one, or one more.
abbrev pub IsHalvedShape : Shape → Type 0
IsHalvedShape one = Unit {0}
IsHalvedShape (two l r) = IsHalvedShape l × IsHalvedShape r × (parts r ≤ parts l) × (parts l ≤ parts r + 1)

-- The number of a tree's root, where its leaves have the numbers from low and its pairs those from first.
abbrev pub root_of : Shape → ℕ → ℕ → ℕ
root_of one low first = low
root_of (two l r) low first = first + pairs l + pairs r

-- The tree lies in the forest: its left part's pairs come first, then its right part's, and then their pair.
abbrev pub Stands : Plain → Shape → ℕ → ℕ → Type 0
Stands f one low first = (low < length f.nodes) × (children f low ≡ None)
Stands f (two l r) low first =
    Stands f l low first × Stands f r (low + parts l) (first + pairs l)
    × (children f (first + pairs l + pairs r) ≡ Some (root_of l low first, root_of r (low + parts l) (first + pairs l)))

-- A halved tree over the leaves from low is new in the second forest.
pub record IsBuilt (f g : Plain) (low count root : ℕ) : Type 0 where
  pub forest : IsForest g
  pub long : length g.nodes + 1 ≡ length f.nodes + count
  pub within : root < length g.nodes
  pub count_is : leaves g root ≡ count
  pub shape : Shape
  pub halved : IsHalvedShape shape
  pub parts_are : parts shape ≡ count
  pub stands : Stands g shape low (length f.nodes)
  pub root_is : root ≡ root_of shape low (length f.nodes)

-- The tree of some leaves is new in the second forest: the leaves, put in their order, have the first new numbers, and the
-- tree is built over them.
pub record IsTreeAdded (f g : Plain) (ls : List Leaf) (root : ℕ) : Type 0 where
  pub sorted : List Leaf
  pub permutation : IsPermutation ls sorted
  pub order : IsSortedBy is_leaf_before sorted
  pub grows : Grows (with_leaves f sorted) g
  pub built : IsBuilt (with_leaves f sorted) g (length f.nodes) (length ls) root
