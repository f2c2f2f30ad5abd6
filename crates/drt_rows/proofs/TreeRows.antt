-- A worked yes of fixed priorities: the tree of a task's walks, and the proofs of the vertices.
use Rattle.std.proofs.Common.{◌≡◌, ℕ, zero, suc, ◌<◌, List, [], ◌∷◌, Some, None, map, refl, lit<, arith}
use Rattle.std.specs.Prelude.{AllPairs, codes}
use Rattle.std.proofs.lemmas.List.Sorted.{IsPermutation-swap}
use Rattle.drt_model.specs.declared.tasks.Task.{Task}
use Rattle.drt_model.specs.Digraph.{digraph_of}
use Rattle.drt_model.specs.Walk.{sep_in, or_zero, requested_from}
use Rattle.drt_claims.specs.Proofs.{after_all, opening_stack, node_parts, passes, subjects_from, tree_sum_at}
use Rattle.drt_claims.specs.Trees.{AreByPriority, greatest_deadline, higher_count, joined, latest_deadline, named, node_values, root}
use Rattle.drt_claims.specs.declared.evidence.Item.TheVariants.{Pass, Split}
use Rattle.drt_claims.specs.declared.evidence.Pair.{Pair}
use Rattle.drt_claims.specs.declared.evidence.TreeClaim.{TreeClaim}
use Rattle.drt_rows.proofs.Sets.{edge, vertex}

-- x (3, 5) with a loop of 20 and y (2, 4) with a loop of 4.
abbrev upper : Task
upper = record { name = codes "T1"; priority = 1; vertices = vertex (codes "x") 3 5 ∷ vertex (codes "y") 2 4 ∷ []; edges = edge 0 0 20 ∷ edge 1 1 4 ∷ [] }

-- z (2, 5) with a loop of 10.
abbrev lower : Task
lower = record { name = codes "T2"; priority = 2; vertices = vertex (codes "z") 2 5 ∷ []; edges = edge 0 0 10 ∷ [] }

-- Whatever the order of the file, the one with the lesser number comes first; one task is above the other, and none above the first.
pub in_order : AreByPriority (lower ∷ upper ∷ []) (upper ∷ lower ∷ [])
in_order = record {
  permutation = IsPermutation-swap (lower ∷ upper ∷ []) (upper ∷ lower ∷ []) 0 1 (lit< tt) (lit< tt) refl;
  rising = rising;
}
  where
    rising : AllPairs (λ s t. s.priority < t.priority) (upper ∷ lower ∷ [])
    rising zero (suc zero) d l m = lit< tt
    rising i zero d l m = absurd (omega (arith, l))
    rising (suc i) (suc zero) d l m = absurd (omega (arith, l))
    rising i (suc (suc j)) d l m = absurd (omega (arith, m))

pub not_in_order : ¬ AreByPriority (lower ∷ upper ∷ []) (lower ∷ upper ∷ [])
not_in_order are = absurd (let l : 2 < 1 = are.rising 0 1 lower (lit< tt) (lit< tt) in omega (arith, l))

pub one_above : higher_count (lower ∷ upper ∷ []) 2 ≡ 1
one_above = refl

pub none_above : higher_count (lower ∷ upper ∷ []) 1 ≡ 0
none_above = refl

pub up_to_5 : greatest_deadline (upper ∷ lower ∷ []) ≡ 5
unfolding greatest_deadline latest_deadline
up_to_5 = refl

-- The walks y, x and y y, and above them the pairs of 0 and 1 and of 3 and 2.
abbrev pair : ℕ → ℕ → Pair
pair left right = record { left = left; right = right }

abbrev tree : TreeClaim
tree = record { walks = (1 ∷ []) ∷ (0 ∷ []) ∷ (1 ∷ 1 ∷ []) ∷ []; pairs = pair 0 1 ∷ pair 3 2 ∷ [] }

-- The last pair is node 4, and each other node is named once.
pub last : root tree ≡ 4
last = refl

pub once_each : map (named tree.pairs) (0 ∷ 1 ∷ 2 ∷ 3 ∷ 4 ∷ []) ≡ 1 ∷ 1 ∷ 1 ∷ 1 ∷ 0 ∷ []
once_each = refl

-- The values of the five nodes: at 4 the second release of y y doesn't count yet, at 5 it does.
pub values_at_4 : node_values (digraph_of upper) tree 4 ≡ 2 ∷ 3 ∷ 2 ∷ 3 ∷ 3 ∷ []
unfolding joined requested_from sep_in or_zero
values_at_4 = refl

pub values_at_5 : node_values (digraph_of upper) tree 5 ≡ 2 ∷ 3 ∷ 4 ∷ 3 ∷ 4 ∷ []
unfolding joined requested_from sep_in or_zero
values_at_5 = refl

-- There is a proof for x, for y and for z.
pub subjects : subjects_from 0 (upper ∷ lower ∷ []) ≡ (0, 0) ∷ (0, 1) ∷ (1, 0) ∷ []
unfolding subjects_from
subjects = refl

-- z's proof splits the root, whose left part is node 3 and whose right part is node 2; then the left half passes at 5 and the right one
-- at 4, and nothing is left.
abbrev trees : List TreeClaim
trees = tree ∷ []

pub ends : after_all trees (Split 0 ∷ Pass 5 ∷ Pass 4 ∷ []) (Some (opening_stack trees 1)) ≡ Some []
unfolding after_all
ends = refl

pub times : passes trees (Split 0 ∷ Pass 5 ∷ Pass 4 ∷ []) (Some (opening_stack trees 1)) ≡ ((3 ∷ []), 5) ∷ ((2 ∷ []), 4) ∷ []
unfolding passes
times = refl

-- Node 3 asks for 3 before 5, and node 2 for 2 before 4: with z's 2 ticks just enough.
pub left_asks : tree_sum_at (digraph_of upper ∷ []) trees (3 ∷ []) 5 ≡ 3
unfolding tree_sum_at joined requested_from sep_in or_zero
left_asks = refl

pub right_asks : tree_sum_at (digraph_of upper ∷ []) trees (2 ∷ []) 4 ≡ 2
unfolding tree_sum_at joined requested_from sep_in or_zero
right_asks = refl

-- With one item fewer a combination is left, with one more there is none to take, and a walk can't be split.
pub one_left : after_all trees (Split 0 ∷ Pass 5 ∷ []) (Some (opening_stack trees 1)) ≡ Some ((2 ∷ []) ∷ [])
unfolding after_all
one_left = refl

pub none_left : after_all trees (Split 0 ∷ Pass 5 ∷ Pass 4 ∷ Pass 5 ∷ []) (Some (opening_stack trees 1)) ≡ None
unfolding after_all
none_left = refl

pub no_parts : node_parts tree 2 ≡ None
no_parts = refl

-- The highest task has no combination but the empty one, which passes at the vertex's execution time.
pub empty_opening : passes trees (Pass 3 ∷ []) (Some (opening_stack trees 0)) ≡ ([], 3) ∷ []
unfolding passes
empty_opening = refl
