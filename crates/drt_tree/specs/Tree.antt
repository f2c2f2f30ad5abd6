-- A forest as lists, and what is true of its nodes.
use Rattle.std.specs.Prelude.{◌≡◌, ℕ, ◌+◌, ◌<◌, Option, None, Some, List, [], ◌∷◌, ◌++◌, length, slice_get, slice_index_or, Bool, cond, map}
use Rattle.std.specs.List.{All}
use Rattle.drt_steps.specs.Values.{max_of}
use Rattle.drt_tree.specs.declared.leaf.Leaf.{Leaf}
use Rattle.drt_tree.specs.declared.node.Node.{Node}

-- The nodes of a forest, and the function of each at its place.
pub record Plain : Type 0 where
  pub nodes : List Node
  pub pool : List (List ℕ)

-- The forest of some nodes and their functions.
abbrev pub plain : List Node → List (List ℕ) → Plain
plain nodes pool = record { nodes = nodes; pool = pool }

-- The children that a node has, if it is there.
abbrev pub node_children : Option Node → Option (ℕ × ℕ)
node_children None = None
node_children (Some n) = n.children

-- The number of leaves of a node, if it is there.
abbrev pub leaves_of_node : Option Node → ℕ
leaves_of_node None = 1
leaves_of_node (Some n) = n.leaves

-- The walk of a node, if it is there.
abbrev pub node_walk : Option Node → List ℕ
node_walk None = []
node_walk (Some n) = n.walk

-- The children of the node of a number.
abbrev pub children : Plain → ℕ → Option (ℕ × ℕ)
children f n = node_children (slice_get f.nodes n)

-- The number of leaves under the node of a number.
abbrev pub leaves : Plain → ℕ → ℕ
leaves f n = leaves_of_node (slice_get f.nodes n)

-- The walk of the leaf of a number.
abbrev pub walk : Plain → ℕ → List ℕ
walk f n = node_walk (slice_get f.nodes n)

-- The values of the node of a number at 1 to the bound.
abbrev pub node_values_in : Plain → ℕ → List ℕ
node_values_in f n = slice_index_or f.pool n []

-- A pair comes after its children, has the leaves of both under it, and at each time the greater of their values.
pub record IsPair (f : Plain) (n l r : ℕ) : Type 0 where
  pub left : l < n
  pub right : r < n
  pub count : leaves f n ≡ leaves f l + leaves f r
  pub most : node_values_in f n ≡ max_of (node_values_in f l) (node_values_in f r)

-- From a node, left or right at each turn, to a leaf.
abbrev pub LeadsToLeaf : Plain → ℕ → List Bool → ℕ → Type 0
LeadsToLeaf f n [] leaf = (n ≡ leaf) × (children f n ≡ None)
LeadsToLeaf f n (b ∷ turns) leaf = (l : ℕ) × (r : ℕ) × (children f n ≡ Some (l, r)) × LeadsToLeaf f (cond b l r) turns leaf

-- The leaf is under the node.
abbrev pub IsUnder : Plain → ℕ → ℕ → Type 0
IsUnder f leaf n = (turns : List Bool) × LeadsToLeaf f n turns leaf

-- No leaf is under both children of a node.
abbrev pub AreApart : Plain → Type 0
AreApart f = (n l r leaf : ℕ) → children f n ≡ Some (l, r) → IsUnder f leaf l → ¬ IsUnder f leaf r

-- Each node with children is a pair, whose two parts have no leaf in common, and all functions have one bound.
pub record IsForest (f : Plain) : Type 0 where
  pub same : length f.nodes ≡ length f.pool
  pub pairs : (n l r : ℕ) → children f n ≡ Some (l, r) → IsPair f n l r
  pub ones : (n : ℕ) → children f n ≡ None → leaves f n ≡ 1
  pub bound : (m n : ℕ) → m < length f.pool → n < length f.pool → length (node_values_in f m) ≡ length (node_values_in f n)
  pub apart : AreApart f

-- One forest goes on from another one, whose nodes it has first.
pub record Grows (f g : Plain) : Type 0 where
  pub more : List Node
  pub functions : List (List ℕ)
  pub nodes : g.nodes ≡ f.nodes ++ more
  pub pool : g.pool ≡ f.pool ++ functions

-- The node of a leaf.
abbrev pub leaf_node : Leaf → Node
leaf_node l = record { children = None; leaves = 1; walk = l.walk }

-- The function of a leaf.
abbrev pub leaf_steps : Leaf → List ℕ
leaf_steps l = l.steps

-- The forest with some leaves behind its nodes.
abbrev pub with_leaves : Plain → List Leaf → Plain
with_leaves f ls = plain (f.nodes ++ map leaf_node ls) (f.pool ++ map leaf_steps ls)

-- All functions of a forest and of some leaves have one bound.
abbrev pub HaveOneBound : List (List ℕ) → List Leaf → Type 0
HaveOneBound pool ls = (bound : ℕ) × All (λ (xs : List ℕ). length xs ≡ bound) pool × All (λ (l : Leaf). length l.steps ≡ bound) ls
