-- The values of a claim's nodes are those of the forest's.
use Rattle.std.proofs.Common.{◌≡◌, ℕ, zero, suc, ◌+◌, ◌-◌, ◌<◌, ◌≤◌, ◌⊎◌, inl, inr, max, Some, List, [], ◌∷◌, ◌++◌, length, refl, ap, ◌∙◌, subst, arith}
use Rattle.std.specs.Prelude.{slice_get, slice_index, slice_index_or}
use Rattle.std.proofs.lemmas.Bool.{cases_lt}
use Rattle.std.proofs.lemmas.List.{get_or_append_left, get_or_at, length-append}
use Rattle.drt_steps.specs.Values.{max_of, value_at}
use Rattle.drt_claims.specs.Trees.{joined}
use Rattle.drt_claims.specs.declared.evidence.Pair.{Pair}

most_at : (xs ys : List ℕ) → length xs ≡ length ys → (i : ℕ) → slice_index (max_of xs ys) i ≡ max (slice_index xs i) (slice_index ys i)
most_at [] [] e i = omega arith
most_at [] (y ∷ ys) e i = absurd (omega arith)
most_at (x ∷ xs) [] e i = absurd (omega arith)
most_at (x ∷ xs) (y ∷ ys) e zero = refl
most_at (x ∷ xs) (y ∷ ys) e (suc i) = most_at xs ys (omega arith) i

-- At each time the greater of two values.
pub most_value : (xs ys : List ℕ) (t : ℕ) → length xs ≡ length ys → value_at (max_of xs ys) t ≡ max (value_at xs t) (value_at ys t)
unfolding value_at
most_value xs ys t e = most_at xs ys e (t - 1)

-- The value at a place of the pair there is the greater of the values at its parts, which come before it.
pub record IsJoin (value : ℕ → ℕ) (place : ℕ) (p : Pair) : Type 0 where
  pub left : p.left < place
  pub right : p.right < place
  pub most : value place ≡ max (value p.left) (value p.right)

module _ (value : ℕ → ℕ) where
  abbrev AreValues : List ℕ → Type 0
  AreValues vs = (n : ℕ) → n < length vs → slice_index_or vs n 0 ≡ value n

  abbrev AreJoins : ℕ → List Pair → Type 0
  AreJoins from ps = (i : ℕ) (p : Pair) → slice_get ps i ≡ Some p → IsJoin value (from + i) p

  values_more : (vs : List ℕ) (x : ℕ) → AreValues vs → x ≡ value (length vs) → AreValues (vs ++ x ∷ [])
  values_more vs x are e n l = go (cases_lt n (length vs))
    where
      go : (n < length vs) ⊎ (length vs ≤ n) → slice_index_or (vs ++ x ∷ []) n 0 ≡ value n
      go (inl m) = get_or_append_left vs (x ∷ []) 0 n m ∙ are n m
      go (inr m) =
          let long = length-append vs (x ∷ []) in
          let is : length vs ≡ n = omega (arith, l, m, long) in
          get_or_at vs x [] 0 n is ∙ (e ∙ ap value is)

  -- Where the first values are those of a function, and each pair's is the greater of its parts', all are the function's.
  pub joined_is : (vs : List ℕ) (ps : List Pair) → AreValues vs → AreJoins (length vs) ps → (n : ℕ) → n < length vs + length ps → slice_index_or (joined vs ps) n 0 ≡ value n
  unfolding joined
  joined_is vs [] first pairs n l = first n (omega (arith, l))
  joined_is vs (p ∷ ps) first pairs n l =
      let j : IsJoin value (length vs + 0) p = pairs 0 p refl in
      let x : ℕ = max (slice_index_or vs p.left 0) (slice_index_or vs p.right 0) in
      let a : slice_index_or vs p.left 0 ≡ value p.left = first p.left (let h = j.left in omega (arith, h)) in
      let b : slice_index_or vs p.right 0 ≡ value p.right = first p.right (let h = j.right in omega (arith, h)) in
      let z : value (length vs + 0) ≡ value (length vs) = ap value (let e : length vs + 0 ≡ length vs = omega arith in e) in
      let m = j.most in
      let is : x ≡ value (length vs) = omega (arith, a, b, z, m) in
      let long : length (vs ++ x ∷ []) ≡ length vs + 1 = length-append vs (x ∷ []) in
      joined_is (vs ++ x ∷ []) ps (values_more vs x first is)
      (λ i q at. subst (λ k. IsJoin value k q) (let e : length vs + suc i ≡ length (vs ++ x ∷ []) + i = omega (arith, long) in e) (pairs (suc i) q at)) n (omega (arith, l, long))
