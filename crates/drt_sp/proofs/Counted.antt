-- The numbers of walks below the nodes of a claim are the forest's numbers of leaves.
use Rattle.std.proofs.Common.{◌≡◌, ℕ, suc, ◌+◌, ◌-◌, ◌<◌, ◌≤◌, ◌⊎◌, inl, inr, Option, None, Some, List, [], ◌∷◌, ◌++◌, length, map, refl, sym, ap, ◌∙◌, subst, arith}
use Rattle.std.specs.Prelude.{slice_get, slice_index_or}
use Rattle.std.proofs.lemmas.Bool.{cases_lt}
use Rattle.std.proofs.lemmas.List.{get_or-map, get_or_append_left, get_or_at, length-append, length-map}
use Rattle.std.proofs.lemmas.Option.{none-some, same_Some, slice_get_within}
use Rattle.drt_model.specs.Digraph.{Digraph}
use Rattle.drt_tree.specs.Tree.{IsForest, IsPair, Plain, children, leaves}
use Rattle.drt_claims.specs.Proofs.{node_parts}
use Rattle.drt_claims.specs.Trees.{IsTree, root}
use Rattle.drt_claims.specs.declared.evidence.Pair.{Pair}
use Rattle.drt_claims.specs.declared.evidence.TreeClaim.{TreeClaim}
use Rattle.drt_sp.specs.TreeClaims.{IsClaimOf, lowered}
use Rattle.drt_sp.specs.Written.{counted_pairs, walk_counts}
use Rattle.drt_sp.proofs.TaskTrees.{parts_after, parts_before}

-- The count at the place of the pair is the sum of the counts at its parts, which come before it.
record IsSum (count : ℕ → ℕ) (place : ℕ) (p : Pair) : Type 0 where
  left : p.left < place
  right : p.right < place
  both : count place ≡ count p.left + count p.right

module _ (count : ℕ → ℕ) where
  abbrev AreCounts : List ℕ → Type 0
  AreCounts counts = (n : ℕ) → n < length counts → slice_index_or counts n 0 ≡ count n

  abbrev AreSums : ℕ → List Pair → Type 0
  AreSums from pairs = (i : ℕ) (p : Pair) → slice_get pairs i ≡ Some p → IsSum count (from + i) p

  counts_more : (counts : List ℕ) (x : ℕ) → AreCounts counts → x ≡ count (length counts) → AreCounts (counts ++ x ∷ [])
  counts_more counts x are e n l = go (cases_lt n (length counts))
    where
      go : (n < length counts) ⊎ (length counts ≤ n) → slice_index_or (counts ++ x ∷ []) n 0 ≡ count n
      go (inl m) = get_or_append_left counts (x ∷ []) 0 n m ∙ are n m
      go (inr m) =
          let long = length-append counts (x ∷ []) in
          let is : length counts ≡ n = omega (arith, l, m, long) in
          get_or_at counts x [] 0 n is ∙ (e ∙ ap count is)

  -- Where the first counts are those of a function, and each pair's is the sum of its parts', all are the function's.
  counted_are : (counts : List ℕ) (pairs : List Pair) → AreCounts counts → AreSums (length counts) pairs
      → (n : ℕ) → n < length counts + length pairs → slice_index_or (counted_pairs counts pairs) n 0 ≡ count n
  unfolding counted_pairs
  counted_are counts [] first sums n l = first n (omega (arith, l))
  counted_are counts (p ∷ pairs) first sums n l =
      let s : IsSum count (length counts + 0) p = sums 0 p refl in
      let x : ℕ = slice_index_or counts p.left 0 + slice_index_or counts p.right 0 in
      let a : slice_index_or counts p.left 0 ≡ count p.left = first p.left (let h = s.left in omega (arith, h)) in
      let b : slice_index_or counts p.right 0 ≡ count p.right = first p.right (let h = s.right in omega (arith, h)) in
      let z : count (length counts + 0) ≡ count (length counts) = ap count (let e : length counts + 0 ≡ length counts = omega arith in e) in
      let both = s.both in
      let is : x ≡ count (length counts) = omega (arith, a, b, z, both) in
      let long : length (counts ++ x ∷ []) ≡ length counts + 1 = length-append counts (x ∷ []) in
      counted_are (counts ++ x ∷ []) pairs (counts_more counts x first is)
      (λ i q at. subst (λ k. IsSum count k q) (let e : length counts + suc i ≡ length (counts ++ x ∷ []) + i = omega (arith, long) in e) (sums (suc i) q at)) n (omega (arith, l, long))

-- Children that have no number from low on are none.
lowered_none : (low : ℕ) (o : Option (ℕ × ℕ)) → None ≡ lowered low o → o ≡ None
lowered_none low None e = refl
lowered_none low (Some p) e = absurd (none-some (p.0 - low, p.1 - low) e)

-- Children that have numbers from low on are there.
lowered_some : (low : ℕ) (o : Option (ℕ × ℕ)) (q : ℕ × ℕ) → Some q ≡ lowered low o → (p : ℕ × ℕ) × (o ≡ Some p) × (q ≡ (p.0 - low, p.1 - low))
lowered_some low None q e = absurd (none-some q (sym e))
lowered_some low (Some p) q e = (p, refl, same_Some q (p.0 - low, p.1 - low) e)

module _ (g : Digraph) (bound : ℕ) (f : Plain) (low top : ℕ) (claim : TreeClaim) (forest : IsForest f) (tree : IsTree claim) (is : IsClaimOf g bound f low top claim) where
  abbrev width : ℕ
  width = length claim.walks

  -- A walk of the claim is a leaf.
  one_walk : (n : ℕ) → n < width → leaves f (low + n) ≡ 1
  one_walk n l =
      let inside : n ≤ root claim = let p = tree.pairs in omega (arith, l, p) in
      let none : node_parts claim n ≡ None = parts_before claim n l in
      forest.ones (low + n) (lowered_none low (children f (low + n)) (sym none ∙ is.parts n inside))

  -- A pair of the claim has as many leaves as both its parts.
  pair_sum : (i : ℕ) (p : Pair) → slice_get claim.pairs i ≡ Some p → IsSum (λ n. leaves f (low + n)) (width + i) p
  pair_sum i p at =
      let within : i < length claim.pairs = slice_get_within claim.pairs i p at in
      let inside : width + i ≤ root claim = omega (arith, within) in
      let here : slice_get claim.pairs (width + i - width) ≡ Some p = ap (slice_get claim.pairs) (let e : width + i - width ≡ i = omega arith in e) ∙ at in
      let named : node_parts claim (width + i) ≡ Some (p.left, p.right) = parts_after claim (width + i) p (omega arith) here in
      let c = lowered_some low (children f (low + (width + i))) (p.left, p.right) (sym named ∙ is.parts (width + i) inside) in
      let from = is.above (width + i) c.0.0 c.0.1 inside c.1 in
      let pair : IsPair f (low + (width + i)) c.0.0 c.0.1 = forest.pairs (low + (width + i)) c.0.0 c.0.1 c.1 in
      let left_is : p.left ≡ c.0.0 - low = ap (λ (q : ℕ × ℕ). q.0) c.2 in
      let right_is : p.right ≡ c.0.1 - low = ap (λ (q : ℕ × ℕ). q.1) c.2 in
      let left : leaves f (low + p.left) ≡ leaves f c.0.0 = ap (leaves f) (let e : low + p.left ≡ c.0.0 = omega (arith, from.0, left_is) in e) in
      let right : leaves f (low + p.right) ≡ leaves f c.0.1 = ap (leaves f) (let e : low + p.right ≡ c.0.1 = omega (arith, from.1, right_is) in e) in
      let count = pair.count in
      record {
        left = tree.left i p at;
        right = tree.right i p at;
        both = omega (arith, left, right, count);
      }

  -- Each node of the claim has as many walks below it as its node of the forest has leaves.
  pub counts_are : (n : ℕ) → n ≤ root claim → slice_index_or (walk_counts claim) n 0 ≡ leaves f (low + n)
  counts_are n l =
      let ones : List ℕ = map (λ walk. 1) claim.walks in
      let long : length ones ≡ width = length-map claim.walks (λ walk. 1) in
      let some = tree.some in
      counted_are (λ k. leaves f (low + k)) ones claim.pairs
      (λ k below. get_or-map (λ (walk : List ℕ). 1) claim.walks k [] 0 (omega (arith, below, long)) ∙ sym (one_walk k (omega (arith, below, long))))
      (λ i p at. subst (λ from. IsSum (λ k. leaves f (low + k)) (from + i) p) (sym long) (pair_sum i p at)) n (omega (arith, l, long, some))
