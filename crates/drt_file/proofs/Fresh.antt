-- Among few tasks some small priority is free.
use Rattle.std.proofs.Common.{◌≡◌, ℕ, zero, suc, ◌+◌, ◌≤◌, ◌<◌, Bool, true, false, not, ◌||◌, List, [], ◌∷◌, length, Option, Some, None, refl, ap, ◌∙◌, arith, cond}
use Rattle.std.specs.Prelude.{◌==◌, filter}
use Rattle.std.specs.List.{list_any}
use Rattle.drt_file.specs.declared.state.Draft.{Draft}
use Rattle.drt_file.specs.internal.StateFaults.{has_that_priority}

-- The elements of which a test doesn't hold.
abbrev others : {X : Type 0} → (X → Bool) → List X → List X
others p xs = filter (λ x. not (p x)) xs

others_few : {X : Type 0} (p : X → Bool) (xs : List X) → length (others p xs) ≤ length xs
others_few p [] = omega arith
others_few p (x ∷ xs) = go (p x) (others_few p xs)
  where
    go : (b : Bool) → length (others p xs) ≤ length xs → length (cond (not b) (x ∷ others p xs) (others p xs)) ≤ suc (length xs)
    go true h = omega (arith, h)
    go false h = omega (arith, h)

others_fewer : {X : Type 0} (p : X → Bool) (xs : List X) → list_any p xs ≡ true → length (others p xs) < length xs
others_fewer p [] e = absurd (cc)
others_fewer p (x ∷ xs) e = go (p x) (others_few p xs) (others_fewer p xs) e
  where
    go : (b : Bool) → length (others p xs) ≤ length xs → (list_any p xs ≡ true → length (others p xs) < length xs) → (b || list_any p xs) ≡ true
        → length (cond (not b) (x ∷ others p xs) (others p xs)) < suc (length xs)
    go true le lt h = omega (arith, le)
    go false le lt h = let r = lt h in omega (arith, r)

-- What holds of no other element, and never with p, holds of none.
any_back : {X : Type 0} (p q : X → Bool) → ((x : X) → p x ≡ true → q x ≡ false) → (xs : List X) → list_any q (others p xs) ≡ false → list_any q xs ≡ false
any_back p q apart [] e = refl
any_back p q apart (x ∷ xs) e = go (p x) refl (any_back p q apart xs) e
  where
    keep : (t : Bool) → (list_any q (others p xs) ≡ false → list_any q xs ≡ false) → (t || list_any q (others p xs)) ≡ false → (t || list_any q xs) ≡ false
    keep true on h = absurd (cc)
    keep false on h = on h

    go : (b : Bool) → p x ≡ b → (list_any q (others p xs) ≡ false → list_any q xs ≡ false) → list_any q (cond (not b) (x ∷ others p xs) (others p xs)) ≡ false → list_any q (x ∷ xs) ≡ false
    go true at on h = ap (λ t. t || list_any q xs) (apart x at) ∙ on h
    go false at on h = keep (q x) on h

one_priority : (j k : ℕ) → k < j → (d : Draft) → has_that_priority j d ≡ true → has_that_priority k d ≡ false
unfolding has_that_priority
one_priority j k lt d e = go d.priority e
  where
    go : (o : Option ℕ) → (elim o [ None ↦ false | Some m ↦ m == j ]) ≡ true → (elim o [ None ↦ false | Some m ↦ m == k ]) ≡ false
    go None h = absurd (cc)
    go (Some m) h = let is : m ≡ j = grind (arith, h) in grind (arith, is, lt)

pub fresh : (m : ℕ) (ds : List Draft) → length ds ≤ m → (k : ℕ) × (1 ≤ k) × (k ≤ m + 1) × (list_any (has_that_priority k) ds ≡ false)
fresh zero [] le = (1, omega arith, omega arith, refl)
fresh zero (d ∷ ds) le = absurd (omega (arith, le))
fresh (suc m) ds le = go (list_any (has_that_priority (m + 2)) ds) refl (fresh m (others (has_that_priority (m + 2)) ds))
  where
    go : (b : Bool) → list_any (has_that_priority (m + 2)) ds ≡ b
        → (length (others (has_that_priority (m + 2)) ds) ≤ m → (k : ℕ) × (1 ≤ k) × (k ≤ m + 1) × (list_any (has_that_priority k) (others (has_that_priority (m + 2)) ds) ≡ false))
        → (k : ℕ) × (1 ≤ k) × (k ≤ suc m + 1) × (list_any (has_that_priority k) ds ≡ false)
    go false at on = (m + 2, omega arith, omega arith, at)
    go true at on =
        let fewer = others_fewer (has_that_priority (m + 2)) ds at in
        let r = on (omega (arith, fewer, le)) in
        let below = r.2 in
        (r.0, r.1, omega (arith, below), any_back (has_that_priority (m + 2)) (has_that_priority r.0) (one_priority (m + 2) r.0 (omega (arith, below))) ds r.3)
