-- Trees and proofs as they are written: which pairs join the walks of a tree, in which order the walks stand, and where a proof splits.
use Rattle.std.specs.Prelude.{◌≡◌, ℕ, ◌+◌, ◌≤◌, ◌<◌, Option, None, Some, List, [], ◌∷◌, ◌++◌, length, map, slice_get, slice_index_or}
use Rattle.std.specs.List.{range_with_len}
use Rattle.std.specs.List.Sorted.{IsSortedBy}
use Rattle.drt_model.specs.declared.tasks.Task.{Task}
use Rattle.drt_model.specs.Digraph.{Digraph, digraph_of}
use Rattle.drt_tree.specs.Leaf.{is_leaf_before}
use Rattle.drt_tree.specs.declared.leaf.Leaf.{Leaf}
use Rattle.drt_claims.specs.Proofs.{HasPassingTime, after, opening_stack}
use Rattle.drt_claims.specs.Trees.{higher_count, root}
use Rattle.drt_claims.specs.declared.evidence.Item.{Item}
use Rattle.drt_claims.specs.declared.evidence.Item.TheVariants.{Pass, Split}
use Rattle.drt_claims.specs.declared.evidence.Pair.{Pair}
use Rattle.drt_claims.specs.declared.evidence.ProofClaim.{ProofClaim}
use Rattle.drt_claims.specs.declared.evidence.TreeClaim.{TreeClaim}
use Rattle.drt_model.specs.Walk.{request_of}

-- The pairs of a halved tree over so many walks, numbered from low on, where the pairs have the numbers from first on, and the number of its
-- root. One walk is a tree by itself. Of more walks the first part has half, or one more than the second; the pairs of the first part stand
-- first, then those of the second, and then the pair of both roots.
pub data AreHalvedPairs : ℕ → ℕ → ℕ → List Pair → ℕ → Type 0 where
  walk : (low first : ℕ) → AreHalvedPairs 1 low first [] low
  pair : (m n low first l r : ℕ) (lefts rights : List Pair) → n ≤ m → m ≤ n + 1 → AreHalvedPairs m low first lefts l → AreHalvedPairs n (low + m) (first + length lefts) rights r
      → AreHalvedPairs (m + n) low first (lefts ++ rights ++ record { left = l; right = r } ∷ []) (first + length lefts + length rights)

-- The tree's pairs are those of a halved tree over its walks.
abbrev pub HasHalves : TreeClaim → Type 0
HasHalves tree = AreHalvedPairs (length tree.walks) 0 (length tree.walks) tree.pairs (root tree)

-- What the walk asks for before each time from 1 to the bound, and its vertices: by these, leaves are put in order.
abbrev pub leaf_of : ℕ → Digraph → List ℕ → Leaf
leaf_of bound g w = record { steps = map (λ t. request_of g w t) (range_with_len 1 bound); walk = w }

-- The tree's walks stand in order: by what they ask for before the bound, then by what they ask for before each earlier time, and then by
-- their vertices.
abbrev pub AreWalksInOrder : ℕ → Digraph → TreeClaim → Type 0
AreWalksInOrder bound g tree = IsSortedBy is_leaf_before (map (leaf_of bound g) tree.walks)

-- The numbers of walks below some nodes, followed by those of the pairs after them: a pair has those of both its parts.
unfoldable pub counted_pairs : List ℕ → List Pair → List ℕ
counted_pairs counts [] = counts
counted_pairs counts (p ∷ pairs) = counted_pairs (counts ++ (slice_index_or counts p.left 0 + slice_index_or counts p.right 0) ∷ []) pairs

-- The numbers of walks below the nodes of the tree: a walk is one.
abbrev pub walk_counts : TreeClaim → List ℕ
walk_counts tree = counted_pairs (map (λ walk. 1) tree.walks) tree.pairs

-- The number of walks below a node, if there are a tree and a node.
abbrev pub count_in : Option TreeClaim → Option ℕ → ℕ
count_in None n = 0
count_in (Some tree) None = 0
count_in (Some tree) (Some n) = slice_index_or (walk_counts tree) n 0

-- The number of walks below the node at a place of a combination, which is one of the tree at that place.
abbrev pub count_at : List TreeClaim → List ℕ → ℕ → ℕ
count_at trees nodes place = count_in (slice_get trees place) (slice_get nodes place)

-- The node at the place has the most walks below it, and each node before it has fewer.
pub record IsWidestPlace (trees : List TreeClaim) (nodes : List ℕ) (place : ℕ) : Type 0 where
  pub within : place < length nodes
  pub most : (q : ℕ) → q < length nodes → count_at trees nodes q ≤ count_at trees nodes place
  pub least : (q : ℕ) → q < place → count_at trees nodes q < count_at trees nodes place

module _ (graphs : List Digraph) (trees : List TreeClaim) (g : Digraph) (v : ℕ) where
  -- The item is due for the combination: it passes with the least time that passes for the vertex; or no time passes, and it splits the
  -- combination at its widest place.
  abbrev pub IsEagerItem : Item → List ℕ → Type 0
  IsEagerItem (Pass t) nodes = HasPassingTime graphs trees g v (nodes, t) × ((s : ℕ) → s < t → HasPassingTime graphs trees g v (nodes, s) → ⊥)
  IsEagerItem (Split place) nodes = ((t : ℕ) → HasPassingTime graphs trees g v (nodes, t) → ⊥) × IsWidestPlace trees nodes place

  -- Each of the items is due for the combination that it is taken for, and the last one ends the stack.
  unfoldable pub AreEagerItems : List Item → Option (List (List ℕ)) → Type 0
  AreEagerItems items None = ⊥
  AreEagerItems [] (Some stack) = stack ≡ []
  AreEagerItems (item ∷ items) (Some []) = ⊥
  AreEagerItems (item ∷ items) (Some (nodes ∷ stack)) = IsEagerItem item nodes × AreEagerItems items (after trees item (nodes ∷ stack))

-- The items of a proof are due one after another, from the roots of the trees of the tasks of higher priority on: each passes with the least
-- time that passes, or splits a combination for which none does, at the node with the most walks below it.
abbrev pub IsEagerProof : List Task → List Digraph → List TreeClaim → ProofClaim → Type 0
IsEagerProof tasks graphs trees proof =
    (t : Task) → slice_get tasks proof.task ≡ Some t
    → AreEagerItems graphs trees (digraph_of t) proof.vertex proof.items (Some (opening_stack trees (higher_count tasks t.priority)))
