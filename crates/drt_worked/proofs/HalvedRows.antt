-- What halved trees over 1, 2, 3 and 5 walks are written as, worked out by hand, and that a chain of pairs over 4 walks isn't one.
use Rattle.std.proofs.Common.{◌≡◌, ℕ, ◌+◌, ◌≤◌, Some, List, [], ◌∷◌, ◌++◌, refl, ap, ◌∙◌, arith}
use Rattle.std.specs.Prelude.{slice_get}
use Rattle.std.proofs.lemmas.Option.{same_Some}
use Rattle.drt_claims.specs.declared.evidence.Pair.{Pair}
use Rattle.drt_sp.specs.Written.{AreHalvedPairs, pair, walk}

-- A pair of two nodes.
abbrev both : ℕ → ℕ → Pair
both l r = record { left = l; right = r }

-- One walk is a tree by itself.
pub one_is_halved : AreHalvedPairs 1 0 1 [] 0
one_is_halved = walk 0 1

-- Node 2 joins the walks 0 and 1.
pub two_are_halved : AreHalvedPairs 2 0 2 (both 0 1 ∷ []) 2
two_are_halved = pair 1 1 0 2 0 1 [] [] (omega arith) (omega arith) (walk 0 2) (walk 1 2)

-- Of 3 walks the first part has two: node 3 joins the walks 0 and 1, and node 4 joins node 3 and the walk 2.
pub three_are_halved : AreHalvedPairs 3 0 3 (both 0 1 ∷ both 3 2 ∷ []) 4
three_are_halved = pair 2 1 0 3 3 2 (both 0 1 ∷ []) [] (omega arith) (omega arith) (pair 1 1 0 3 0 1 [] [] (omega arith) (omega arith) (walk 0 3) (walk 1 3)) (walk 2 4)

-- Of 5 walks the first part has three, whose pairs are the nodes 5 and 6. Node 7 joins the walks 3 and 4, and node 8 joins both parts.
pub five_are_halved : AreHalvedPairs 5 0 5 (both 0 1 ∷ both 5 2 ∷ both 3 4 ∷ both 6 7 ∷ []) 8
five_are_halved = pair 3 2 0 5 6 7 (both 0 1 ∷ both 5 2 ∷ []) (both 3 4 ∷ []) (omega arith) (omega arith) three two
  where
    three : AreHalvedPairs 3 0 5 (both 0 1 ∷ both 5 2 ∷ []) 6
    three = pair 2 1 0 5 5 2 (both 0 1 ∷ []) [] (omega arith) (omega arith) (pair 1 1 0 5 0 1 [] [] (omega arith) (omega arith) (walk 0 5) (walk 1 5)) (walk 2 6)

    two : AreHalvedPairs 2 3 7 (both 3 4 ∷ []) 7
    two = pair 1 1 3 7 3 4 [] [] (omega arith) (omega arith) (walk 3 7) (walk 4 7)

-- A halved tree has a walk.
some_walk : (n low first root : ℕ) (pairs : List Pair) → AreHalvedPairs n low first pairs root → 1 ≤ n
some_walk _ _ _ _ _ (walk low first) = omega arith
some_walk _ _ _ _ _ (pair m n low first l r lefts rights less more left right) = let a = some_walk m low first l lefts left in omega (arith, a)

-- A halved tree over one walk is that walk.
one_written : (n low first root : ℕ) (pairs : List Pair) → AreHalvedPairs n low first pairs root → n ≡ 1 → (pairs ≡ []) × (root ≡ low)
one_written _ _ _ _ _ (walk low first) e = (refl, refl)
one_written _ _ _ _ _ (pair m n low first l r lefts rights less more left right) e =
    let a = some_walk m low first l lefts left in
    let b = some_walk n _ _ r rights right in
    absurd (omega (arith, a, b, e))

-- A halved tree over two walks is the pair of these.
two_written : (n low first root : ℕ) (pairs : List Pair) → AreHalvedPairs n low first pairs root → n ≡ 2 → pairs ≡ both low (low + 1) ∷ []
two_written _ _ _ _ _ (walk low first) e = absurd (omega (arith, e))
two_written _ _ _ _ _ (pair m n low first l r lefts rights less more left right) e =
    let a = some_walk m low first l lefts left in
    let b = some_walk n _ _ r rights right in
    let m_is : m ≡ 1 = omega (arith, a, b, e, less, more) in
    let x = one_written m low first l lefts left m_is in
    let y = one_written n _ _ r rights right (omega (arith, e, m_is)) in
    ap (λ ps. ps ++ rights ++ both l r ∷ []) x.0
    ∙ (ap (λ ps. ps ++ both l r ∷ []) y.0
    ∙ (ap (λ k. both k r ∷ []) x.1
    ∙ ap (λ k. both low k ∷ []) (y.1 ∙ ap (λ k. low + k) m_is)))

-- A tree of two and two walks, whose second pair is that of the third walk and the fourth.
second_pair : (n low first root : ℕ) (pairs : List Pair) → AreHalvedPairs n low first pairs root → n ≡ 4 → slice_get pairs 1 ≡ Some (both (low + 2) (low + 3))
second_pair _ _ _ _ _ (walk low first) e = absurd (omega (arith, e))
second_pair _ _ _ _ _ (pair m n low first l r lefts rights less more left right) e =
    let m_is : m ≡ 2 = omega (arith, e, less, more) in
    let x = two_written m low first l lefts left m_is in
    let y = two_written n _ _ r rights right (omega (arith, e, m_is)) in
    ap (λ ps. slice_get (ps ++ rights ++ both l r ∷ []) 1) x
    ∙ (ap (λ ps. slice_get (both low (low + 1) ∷ ps ++ both l r ∷ []) 1) y
    ∙ (ap (λ k. Some (both (low + k) (low + k + 1))) m_is
    ∙ ap (λ k. Some (both (low + 2) k)) (let s : low + 2 + 1 ≡ low + 3 = omega arith in s)))

-- Node 4 joins the walks 0 and 1, node 5 joins node 4 and the walk 2, and node 6 joins node 5 and the walk 3: that isn't halved.
pub chain_is_not_halved : ¬ AreHalvedPairs 4 0 4 (both 0 1 ∷ both 4 2 ∷ both 5 3 ∷ []) 6
chain_is_not_halved h =
    let same : both 4 2 ≡ both 2 3 = same_Some (both 4 2) (both 2 3) (second_pair 4 0 4 6 (both 0 1 ∷ both 4 2 ∷ both 5 3 ∷ []) h refl) in
    absurd (omega (arith, ap (λ (p : Pair). p.left) same))
