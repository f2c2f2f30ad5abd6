-- Combinations of nodes of a forest, and the tuples of leaves below them.
use Rattle.std.specs.Prelude.{◌≡◌, ℕ, ◌*◌, ◌<◌, None, List, [], ◌∷◌, length}
use Rattle.drt_tree.specs.Tree.{Plain, IsUnder, children, leaves}

module _ (f : Plain) where
  -- The tuple has one leaf under each node. The empty combination has one tuple below it, the empty one.
  abbrev pub AreBelow : List ℕ → List ℕ → Type 0
  AreBelow [] [] = Unit {0}
  AreBelow [] (n ∷ nodes) = ⊥
  AreBelow (leaf ∷ tuple) [] = ⊥
  AreBelow (leaf ∷ tuple) (n ∷ nodes) = IsUnder f leaf n × AreBelow tuple nodes

  -- Each node is a leaf.
  abbrev pub IsConcrete : List ℕ → Type 0
  IsConcrete [] = Unit {0}
  IsConcrete (n ∷ nodes) = (children f n ≡ None) × IsConcrete nodes

  -- Each number is that of a node of the forest.
  abbrev pub AreNodes : List ℕ → Type 0
  AreNodes [] = Unit {0}
  AreNodes (n ∷ nodes) = (n < length f.nodes) × AreNodes nodes

  -- The number of tuples below the nodes.
  abbrev pub tuples : List ℕ → ℕ
  tuples [] = 1
  tuples (n ∷ nodes) = leaves f n * tuples nodes
