-- Lists in which each two neighbours are related.
use Rattle.std.proofs.Common.{◌≡◌, ℕ, zero, suc, ◌+◌, ◌<◌, ◌≤◌, ◌⊎◌, inl, inr, List, [], ◌∷◌}
use Rattle.std.proofs.Common.{◌++◌, length, get_or, drop, map, subst, arith, length-append, length-drop}
use Rattle.std.proofs.lemmas.List.{get_or_append_left, get_or-drop}
use Rattle.std.proofs.Math.Seq.{get_or-append_seam}
use Rattle.std.proofs.lemmas.Bool.{cases_lt}
use Rattle.std.specs.List.Sorted.{IsNonDecreasingBy}
use Rattle.drt_model.specs.Legal.{AllNeighbours}
use Rattle.drt_model.proofs.Neighbours.{AllNeighbours-nil, AllNeighbours-one, AllNeighbours-cons, AllNeighbours-head, AllNeighbours-tail}

-- Neighbours are related in another way, where the one relation leads to the other.
pub neighbours_weaker : {X : Type 0} (R S : X → X → Type 0) (xs : List X) → ((x y : X) → R x y → S x y) → AllNeighbours R xs → AllNeighbours S xs
neighbours_weaker R S xs f h i d l = f (get_or xs i d) (get_or xs (i + 1) d) (h i d l)

-- One more element, which the last one is related to.
pub neighbours_push : {X : Type 0} (R : X → X → Type 0) (xs : List X) (y : X) → AllNeighbours R xs
    → ((k : ℕ) (d : X) → k + 1 ≡ length xs → R (get_or xs k d) y) → AllNeighbours R (xs ++ y ∷ [])
neighbours_push {X} R xs y h last i d l = go (cases_lt (i + 1) (length xs))
  where
    here : i < length xs
    here = omega (arith, length-append xs (y ∷ []))

    go : (i + 1 < length xs) ⊎ (length xs ≤ i + 1) → R (get_or (xs ++ y ∷ []) i d) (get_or (xs ++ y ∷ []) (i + 1) d)
    go (inl q) = rw (get_or_append_left xs (y ∷ []) d i here) (rw (get_or_append_left xs (y ∷ []) d (i + 1) q) (h i d q))
    go (inr q) = (let e : i + 1 ≡ length xs = omega (arith, length-append xs (y ∷ [])) in
        rw (get_or_append_left xs (y ∷ []) d i here) (rw (e, get_or-append_seam xs y [] d) (last i d e)))

-- What neighbours are to each other after a function, where its values are.
pub neighbours_map : {X Y : Type 0} (R : Y → Y → Type 0) (f : X → Y) (xs : List X) → AllNeighbours (λ a b. R (f a) (f b)) xs → AllNeighbours R (map f xs)
neighbours_map R f [] h = AllNeighbours-nil R
neighbours_map R f (x ∷ []) h = AllNeighbours-one R (f x)
neighbours_map R f (x ∷ (y ∷ ys)) h =
    AllNeighbours-cons R (f x) (f y) (map f ys) (AllNeighbours-head (λ a b. R (f a) (f b)) x y ys h)
    (neighbours_map R f (y ∷ ys) (AllNeighbours-tail (λ a b. R (f a) (f b)) x (y ∷ ys) h))

-- Neighbours in the rest of a list are neighbours in the list.
pub neighbours_drop : {X : Type 0} (R : X → X → Type 0) (n : ℕ) (xs : List X) → AllNeighbours R xs → AllNeighbours R (drop n xs)
neighbours_drop R n xs h i d l =
    let e : n + i + 1 ≡ n + (i + 1) = omega arith in
    let at : R (get_or xs (n + i) d) (get_or xs (n + (i + 1)) d)
    = subst (λ (k : ℕ). R (get_or xs (n + i) d) (get_or xs k d)) e (h (n + i) d (omega (arith, length-drop n xs))) in
    rw (get_or-drop n xs i d, get_or-drop n xs (i + 1) d) at

-- Where neighbours ascend, all do.
pub ascends : {X : Type 0} (n : X → ℕ) (xs : List X) → AllNeighbours (λ x y. n x ≤ n y) xs → IsNonDecreasingBy n xs
ascends n xs h i zero d le l = (let e : i ≡ 0 = omega arith in subst (λ (k : ℕ). n (get_or xs i d) ≤ n (get_or xs k d)) e (omega arith))
ascends n xs h i (suc j) d le l = go (cases_lt i (suc j)) (λ q. ascends n xs h i j d (omega arith) (omega arith))
  where
    step : n (get_or xs j d) ≤ n (get_or xs (suc j) d)
    step = (let e : j + 1 ≡ suc j = omega arith in subst (λ (k : ℕ). n (get_or xs j d) ≤ n (get_or xs k d)) e (h j d (omega arith)))

    go : (i < suc j) ⊎ (suc j ≤ i) → (i < suc j → n (get_or xs i d) ≤ n (get_or xs j d)) → n (get_or xs i d) ≤ n (get_or xs (suc j) d)
    go (inl q) before = omega (arith, before q, step)
    go (inr q) before = (let e : i ≡ suc j = omega arith in subst (λ (k : ℕ). n (get_or xs i d) ≤ n (get_or xs k d)) e (omega arith))
