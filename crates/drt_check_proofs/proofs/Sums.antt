-- The sum of the values of a combination's nodes, place by place.
use Rattle.std.proofs.Common.{◌≡◌, ℕ, zero, suc, ◌+◌, ◌<◌, ◌≤◌, List, [], ◌∷◌, ◌++◌, length, map, max, min, take, get_or, refl, ap, ◌∙◌, arith}
use Rattle.std.specs.Prelude.{Option, Some, None, slice_get}
use Rattle.std.proofs.lemmas.Bool.{le-ltb}
use Rattle.std.proofs.lemmas.List.{get_or_append_left, length_push}
use Rattle.drt_model.specs.Digraph.{Digraph}
use Rattle.drt_model.specs.Walk.{gap, requested_from, request_of}
use Rattle.drt_claims.specs.Proofs.{tree_sum_at}
use Rattle.drt_claims.specs.Trees.{IsTree, joined, node_values}
use Rattle.drt_claims.specs.declared.evidence.Pair.{Pair}
use Rattle.drt_claims.specs.declared.evidence.TreeClaim.{TreeClaim}
use Rattle.drt_check_values.specs.Values.{query_value}
use Rattle.drt_check_proofs.specs.Points.{Point, query, query_in, used}

-- The value of a node, if there is one.
abbrev pub value_in : Digraph → TreeClaim → ℕ → Option ℕ → ℕ
value_in g tree t None = 0
value_in g tree t (Some n) = get_or (node_values g tree t) n 0

sum_none : (trees : List TreeClaim) (nodes : List ℕ) (t : ℕ) → tree_sum_at [] trees nodes t ≡ 0
unfolding tree_sum_at
sum_none trees [] t = refl
sum_none trees (n ∷ nodes) t = refl

-- The sum at one place more.
sum_more : (i : ℕ) (graphs : List Digraph) (trees : List TreeClaim) (nodes : List ℕ) (t : ℕ) (g : Digraph) (tree : TreeClaim) → slice_get graphs i ≡ Some g → slice_get trees i ≡ Some tree
    → tree_sum_at (take (suc i) graphs) trees nodes t ≡ tree_sum_at (take i graphs) trees nodes t + value_in g tree t (slice_get nodes i)
unfolding tree_sum_at
sum_more i [] trees nodes t g tree at_g at_tree = absurd (cc)
sum_more i (h ∷ graphs) [] nodes t g tree at_g at_tree = absurd (cc)
sum_more i (h ∷ graphs) (u ∷ trees) [] t g tree at_g at_tree = refl
sum_more zero (h ∷ graphs) (u ∷ trees) (n ∷ nodes) t g tree at_g at_tree =
    let same_g : h ≡ g = cc in
    let same_tree : u ≡ tree = cc in
    let none = sum_none trees nodes t in
    let is : get_or (node_values h u t) n 0 ≡ get_or (node_values g tree t) n 0 = cc (same_g, same_tree) in
    omega (arith, none, is)
sum_more (suc i) (h ∷ graphs) (u ∷ trees) (n ∷ nodes) t g tree at_g at_tree =
    let rest = sum_more i graphs trees nodes t g tree at_g at_tree in
    omega (arith, rest)

-- Values at some of the places are at most those at all.
sum_most : (i : ℕ) (graphs : List Digraph) (trees : List TreeClaim) (nodes : List ℕ) (t : ℕ) → tree_sum_at (take i graphs) trees nodes t ≤ tree_sum_at graphs trees nodes t
unfolding tree_sum_at
sum_most zero graphs trees nodes t = (let none = sum_none trees nodes t in omega (arith, none))
sum_most (suc i) [] trees nodes t = omega arith
sum_most (suc i) (h ∷ graphs) [] [] t = omega arith
sum_most (suc i) (h ∷ graphs) [] (n ∷ nodes) t = omega arith
sum_most (suc i) (h ∷ graphs) (u ∷ trees) [] t = omega arith
sum_most (suc i) (h ∷ graphs) (u ∷ trees) (n ∷ nodes) t = (let rest = sum_most i graphs trees nodes t in omega (arith, rest))

-- A walk asks for nothing before time 0.
requested_none : (g : Digraph) (offset u : ℕ) (vs : List ℕ) → requested_from g offset u vs 0 ≡ 0
unfolding requested_from
requested_none g offset u [] = rw (le-ltb offset 0 (omega arith)) refl
requested_none g offset u (v ∷ vs) =
    let rest = requested_none g (offset + gap g u v) v vs in
    rw (le-ltb offset 0 (omega arith)) (omega (arith, rest))

asked_none : (g : Digraph) (walk : List ℕ) → request_of g walk 0 ≡ 0
asked_none g [] = refl
asked_none g (u ∷ vs) = requested_none g 0 u vs

joined_keeps : (values : List ℕ) (pairs : List Pair) (k : ℕ) → k < length values → get_or (joined values pairs) k 0 ≡ get_or values k 0
unfolding joined
joined_keeps values [] k l = refl
joined_keeps values (p ∷ pairs) k l =
    let m = max (get_or values p.left 0) (get_or values p.right 0) in
    joined_keeps (values ++ m ∷ []) pairs k (omega (arith, length_push values m)) ∙ get_or_append_left values (m ∷ []) 0 k l

-- The question that is asked where there is no node has the value 0.
value_none : (g : Digraph) (tree : TreeClaim) → 1 ≤ length tree.walks → get_or (node_values g tree 0) 0 0 ≡ 0
value_none g tree some = go tree.walks some
  where
    go : (walks : List (List ℕ)) → 1 ≤ length walks → get_or (joined (map (λ walk. request_of g walk 0) walks) tree.pairs) 0 0 ≡ 0
    go [] l = absurd (omega arith)
    go (x ∷ walks) l = joined_keeps (request_of g x 0 ∷ map (λ walk. request_of g walk 0) walks) tree.pairs 0 (omega arith) ∙ asked_none g x

value_query : (g : Digraph) (tree : TreeClaim) (t : ℕ) (o : Option ℕ) → 1 ≤ length tree.walks → t ≤ 4294967295 → query_value g tree (query_in t o) ≡ value_in g tree t o
value_query g tree t None some short = value_none g tree some
value_query g tree t (Some n) some short = (let e : min t 4294967295 ≡ t = omega arith in ap (λ s. get_or (node_values g tree s) n 0) e)

-- What a point asks for at one place more.
pub used_more : (graphs : List Digraph) (trees : List TreeClaim) (i : ℕ) (g : Digraph) (tree : TreeClaim) (p : Point) → slice_get graphs i ≡ Some g → slice_get trees i ≡ Some tree → IsTree tree
    → p.mark.time ≤ 4294967295 → used graphs trees (i + 1) p ≡ used graphs trees i p + query_value g tree (query i p)
used_more graphs trees i g tree p at_g at_tree is short =
    let step = sum_more i graphs trees p.nodes p.mark.time g tree at_g at_tree in
    let v = value_query g tree p.mark.time (slice_get p.nodes i) is.some short in
    let next : i + 1 ≡ suc i = omega arith in
    let e = ap (λ n. tree_sum_at (take n graphs) trees p.nodes p.mark.time) next in
    omega (arith, step, v, e)

-- What it asks for at some places is at most what it asks for at all.
pub used_most : (graphs : List Digraph) (trees : List TreeClaim) (i : ℕ) (p : Point) → used graphs trees i p ≤ p.mark.wcet + tree_sum_at graphs trees p.nodes p.mark.time
used_most graphs trees i p = (let l = sum_most i graphs trees p.nodes p.mark.time in omega (arith, l))

pub used_first : (graphs : List Digraph) (trees : List TreeClaim) (p : Point) → used graphs trees 0 p ≡ p.mark.wcet
used_first graphs trees p = (let e = sum_none trees p.nodes p.mark.time in omega (arith, e))
