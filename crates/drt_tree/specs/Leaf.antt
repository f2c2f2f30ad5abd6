-- The leaves of a tree and their order.
use Rattle.std.specs.Prelude.{ℕ, Bool, List, [], ◌∷◌, ◌++◌, length, reverse}
use Rattle.std.specs.declared.cmp.Ordering.{Ordering}
use Rattle.std.specs.declared.sync.Arc.{Arc}
use Rattle.std.specs.Ordering.{nat_cmp, is_lt}
use Rattle.std.specs.Cmp.Lexicographic.{slice_cmp}
use Rattle.drt_request.specs.Request.{Request}
use Rattle.drt_tree.specs.declared.leaf.Leaf.{Leaf}

-- What leaves are ordered by: the bound, then the values from the bound down to 1, then the vertices of the walk.
abbrev pub leaf_key : Leaf → List ℕ
leaf_key l = length l.steps ∷ (reverse l.steps ++ l.walk)

-- The order of two leaves: the first place at which their keys differ decides, and else the shorter key comes first.
abbrev pub leaf_cmp : Leaf → Leaf → Ordering
leaf_cmp x y = slice_cmp nat_cmp (leaf_key x) (leaf_key y)

-- A leaf comes before another one.
abbrev pub is_leaf_before : Leaf → Leaf → Bool
is_leaf_before x y = is_lt (leaf_cmp x y)

-- The leaf at each place has the label's function and the walk at its place.
abbrev pub leaves_of : {Z : Type 0} → List (Arc Request Z) → List (List ℕ) → List Leaf
leaves_of [] walks = []
leaves_of (l ∷ labels) [] = []
leaves_of (l ∷ labels) (w ∷ walks) = record { steps = l.value.values; walk = w } ∷ leaves_of labels walks
