-- The widest place of a combination, from what a search saw.
use Rattle.std.proofs.Common.{◌≡◌, ℕ, suc, ◌+◌, ◌<◌, ◌≤◌, ◌⊎◌, Option, Some, None, List, [], ◌∷◌, length, refl, sym, ap, ◌∙◌, arith, inl, inr}
use Rattle.std.specs.Prelude.{slice_get}
use Rattle.std.proofs.lemmas.Option.{same_Some, slice_get_within}
use Rattle.drt_tree.specs.Tree.{Plain, IsForest, children, leaves}
use Rattle.drt_refine.specs.Below.{IsConcrete}
use Rattle.drt_refine.specs.Eager.{IsSplitPlace}

module _ (f : Plain) (nodes : List ℕ) where
  -- None of the first i nodes has more leaves than the number.
  abbrev pub AreAtMost : ℕ → ℕ → Type 0
  AreAtMost i most = (q m : ℕ) → q < i → slice_get nodes q ≡ Some m → leaves f m ≤ most

  -- The widest place so far, which is none where each node has one leaf.
  abbrev pub IsBest : ℕ → ℕ → Option ℕ → Type 0
  IsBest i most None = most ≡ 1
  IsBest i most (Some p) = (n : ℕ) × (slice_get nodes p ≡ Some n) × (leaves f n ≡ most) × (2 ≤ most) × (p < i) × ((q m : ℕ) → q < p → slice_get nodes q ≡ Some m → leaves f m < most)

  halves : (q i : ℕ) → q < i + 1 → (q < i) ⊎ (q ≡ i)
  halves q i lt = grind arith

  -- one more node, which is wider
  pub wider : (i n most : ℕ) → slice_get nodes i ≡ Some n → AreAtMost i most → most < leaves f n → 1 ≤ most → AreAtMost (i + 1) (leaves f n) × IsBest (i + 1) (leaves f n) (Some i)
  wider i n most at seen more some = (
    (λ q m lt here. elim (halves q i lt) as (λ _. leaves f m ≤ leaves f n) [
      | inl less ↦ (let a : leaves f m ≤ most = seen q m less here in omega arith)
      | inr same ↦ (let e : leaves f n ≡ leaves f m = ap (λ k. leaves f k) (same_Some n m (sym at ∙ (ap (λ j. slice_get nodes j) (sym same) ∙ here))) in omega arith)
    ]),
    (n, at, refl, omega arith, omega arith, (λ q m lt here. let a : leaves f m ≤ most = seen q m lt here in omega arith)),
  )

  -- one more node, which isn't
  pub as_wide : (i n most : ℕ) (o : Option ℕ) → slice_get nodes i ≡ Some n → AreAtMost i most → leaves f n ≤ most → IsBest i most o → AreAtMost (i + 1) most × IsBest (i + 1) most o
  as_wide i n most o at seen le best = (
    (λ q m lt here. elim (halves q i lt) as (λ _. leaves f m ≤ most) [
      | inl less ↦ seen q m less here
      | inr same ↦ (let e : leaves f n ≡ leaves f m = ap (λ k. leaves f k) (same_Some n m (sym at ∙ (ap (λ j. slice_get nodes j) (sym same) ∙ here))) in omega arith)
    ]),
    later o best,
  )
    where
      later : (o : Option ℕ) → IsBest i most o → IsBest (i + 1) most o
      later None b = b
      later (Some p) b = (b.0, b.1, b.2, b.3, (let lt : p < i = b.4 in omega arith), b.5)

module _ (f : Plain) (forest : IsForest f) (pairs : (n l r : ℕ) → children f n ≡ Some (l, r) → 2 ≤ leaves f n) where
  leaf_by : (n : ℕ) (o : Option (ℕ × ℕ)) → children f n ≡ o → leaves f n ≤ 1 → children f n ≡ None
  leaf_by n None e le = e
  leaf_by n (Some p) e le = absurd (let two : 2 ≤ leaves f n = pairs n p.0 p.1 e in omega arith)

  concrete : (nodes : List ℕ) → ((q m : ℕ) → slice_get nodes q ≡ Some m → leaves f m ≤ 1) → IsConcrete f nodes
  concrete [] h = tt
  concrete (n ∷ nodes) h = (leaf_by n (children f n) refl (h 0 n refl), concrete nodes (λ q m at. h (suc q) m at))

  pair_by : (n : ℕ) (o : Option (ℕ × ℕ)) → children f n ≡ o → 2 ≤ leaves f n → (l : ℕ) × (r : ℕ) × (children f n ≡ Some (l, r))
  pair_by n None e le = absurd (let one : leaves f n ≡ 1 = forest.ones n e in omega arith)
  pair_by n (Some p) e le = (p.0, p.1, e)

  -- after all nodes
  pub place_of : (nodes : List ℕ) (most : ℕ) (o : Option ℕ) → AreAtMost f nodes (length nodes) most → IsBest f nodes (length nodes) most o → IsSplitPlace f nodes o
  place_of nodes most None seen best = concrete nodes (λ q m at. let a : leaves f m ≤ most = seen q m (slice_get_within nodes q m at) at in let e : most ≡ 1 = best in omega arith)
  place_of nodes most (Some p) seen best =
      let e : leaves f best.0 ≡ most = best.2 in
      let two : 2 ≤ most = best.3 in
      let pair : (l : ℕ) × (r : ℕ) × (children f best.0 ≡ Some (l, r)) = pair_by best.0 (children f best.0) refl (omega arith) in (
        record {
          node = best.0;
          at = best.1;
          most = λ q m at. let a : leaves f m ≤ most = seen q m (slice_get_within nodes q m at) at in omega arith;
          least = λ q m lt at. let a : leaves f m < most = best.5 q m lt at in omega arith;
        },
        pair.0,
        pair.1,
        pair.2,
      )
