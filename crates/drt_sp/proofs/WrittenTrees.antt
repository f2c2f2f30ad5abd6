-- A halved tree as it is written: its pairs are those of a halved tree over its walks, and the leaves of its walks are its leaves.
use Rattle.std.proofs.Common.{◌≡◌, ℕ, ◌+◌, ◌-◌, ◌<◌, List, [], ◌∷◌, ◌++◌, All, length, map, get_or, refl, sym, ap, ◌∙◌, subst, arith}
use Rattle.std.specs.List.{range_with_len}
use Rattle.std.proofs.lemmas.List.{append_assoc, ext_get_or, length-append}
use Rattle.std.proofs.lemmas.List.Elements.{All-head, All-tail}
use Rattle.std.proofs.lemmas.List.FromFn.{length-map-range_with_len, get_or-map-range_with_len}
use Rattle.drt_model.specs.Digraph.{Digraph}
use Rattle.drt_steps.specs.Values.{value_at}
use Rattle.drt_tree.specs.Shape.{Shape, one, two, parts, pairs, root_of, IsHalvedShape}
use Rattle.drt_tree.specs.declared.leaf.Leaf.{Leaf}
use Rattle.drt_claims.specs.Trees.{root}
use Rattle.drt_claims.specs.declared.evidence.Pair.{Pair}
use Rattle.drt_sp.specs.TaskTrees.{IsWalkLeaf}
use Rattle.drt_sp.specs.Written.{HasHalves, AreHalvedPairs, leaf_of, pair, walk}
use Rattle.drt_sp.proofs.TreeShapes.{pairs_of, root_last}
use Rattle.drt_model.specs.Walk.{request_of}

-- There are as many pairs as the tree has.
pub pairs_length : (s : Shape) (low first : ℕ) → length (pairs_of s low first) ≡ pairs s
unfolding pairs_of
pairs_length one low first = refl
pairs_length (two l r) low first =
    let last : Pair = record { left = root_of l low first; right = root_of r (low + parts l) (first + pairs l) } in
    let rights : List Pair = pairs_of r (low + parts l) (first + pairs l) in
    omega (
      arith,
      length-append (pairs_of l low first) (rights ++ last ∷ []),
      length-append rights (last ∷ []),
      pairs_length l low first,
      pairs_length r (low + parts l) (first + pairs l),
    )

-- The pairs of a halved tree are written as such.
pub pairs_halved : (s : Shape) → IsHalvedShape s → (low first : ℕ) → AreHalvedPairs (parts s) low first (pairs_of s low first) (root_of s low first)
unfolding pairs_of
pairs_halved one halved low first = walk low first
pairs_halved (two l r) halved low first =
    let lefts : List Pair = pairs_of l low first in
    let rights : List Pair = pairs_of r (low + parts l) (first + pairs l) in
    let last : Pair = record { left = root_of l low first; right = root_of r (low + parts l) (first + pairs l) } in
    let a : length lefts ≡ pairs l = pairs_length l low first in
    let b : length rights ≡ pairs r = pairs_length r (low + parts l) (first + pairs l) in
    let left : AreHalvedPairs (parts l) low first lefts (root_of l low first) = pairs_halved l halved.0 low first in
    let right : AreHalvedPairs (parts r) (low + parts l) (first + length lefts) rights (root_of r (low + parts l) (first + pairs l)) =
    subst (λ n. AreHalvedPairs (parts r) (low + parts l) (first + n) rights (root_of r (low + parts l) (first + pairs l))) (sym a)
    (pairs_halved r halved.1 (low + parts l) (first + pairs l)) in
    let root : first + length lefts + length rights ≡ first + pairs l + pairs r = omega (arith, a, b) in
    subst (λ (ps : List Pair). AreHalvedPairs (parts l + parts r) low first ps (first + pairs l + pairs r)) (append_assoc lefts rights (last ∷ []))
    (subst (λ n. AreHalvedPairs (parts l + parts r) low first (lefts ++ rights ++ last ∷ []) n) root
    (pair (parts l) (parts r) low first (root_of l low first) (root_of r (low + parts l) (first + pairs l)) lefts rights halved.2 halved.3 left right))

-- So a claim with these pairs and a walk for each leaf is halved.
pub claim_halved : (s : Shape) → IsHalvedShape s → (walks : List (List ℕ)) → length walks ≡ parts s → HasHalves (record { walks = walks; pairs = pairs_of s 0 (parts s) })
claim_halved s halved walks long =
    let pairs_are : List Pair = pairs_of s 0 (parts s) in
    let none : 0 + parts s ≡ parts s = omega arith in
    let last : root_of s 0 (parts s) + 1 ≡ 0 + parts s + pairs s = ap (λ n. root_of s 0 n + 1) (sym none) ∙ root_last s 0 in
    let top : root_of s 0 (parts s) ≡ root (record { walks = walks; pairs = pairs_are }) = omega (arith, last, long, pairs_length s 0 (parts s)) in
    subst (λ n. AreHalvedPairs n 0 n pairs_are (root (record { walks = walks; pairs = pairs_are }))) (sym long)
    (subst (AreHalvedPairs (parts s) 0 (parts s) pairs_are) top (pairs_halved s halved 0 (parts s)))

-- The leaf of a leaf's walk is the leaf.
leaf_is : (bound : ℕ) (g : Digraph) (l : Leaf) → IsWalkLeaf bound g l → leaf_of bound g l.walk ≡ l
unfolding value_at
leaf_is bound g l is =
    let f : ℕ → ℕ = λ t. request_of g l.walk t in
    let steps : map f (range_with_len 1 bound) ≡ l.steps = ext_get_or 0 (map f (range_with_len 1 bound)) l.steps (length-map-range_with_len f 1 bound ∙ sym is.long) (λ i within.
    let w : i < bound = omega (arith, within, length-map-range_with_len f 1 bound) in
    let e : 1 + i - 1 ≡ i = omega arith in
    get_or-map-range_with_len f 1 bound i (1 + i) 0 w (omega arith) ∙ (sym (is.values (1 + i) (omega arith) (omega (arith, w))) ∙ ap (λ k. get_or l.steps k 0) e)) in
    ap (λ (xs : List ℕ). record { steps = xs; walk = l.walk }) steps

-- So the leaves of the walks of some leaves are these leaves.
pub leaves_are : (bound : ℕ) (g : Digraph) (ls : List Leaf) → All (IsWalkLeaf bound g) ls → map (leaf_of bound g) (map (λ l. l.walk) ls) ≡ ls
leaves_are bound g [] each = refl
leaves_are bound g (l ∷ ls) each =
    ap (λ x. x ∷ map (leaf_of bound g) (map (λ (l : Leaf). l.walk) ls)) (leaf_is bound g l (All-head (IsWalkLeaf bound g) l ls each))
    ∙ ap (λ xs. l ∷ xs) (leaves_are bound g ls (All-tail (IsWalkLeaf bound g) l ls each))
