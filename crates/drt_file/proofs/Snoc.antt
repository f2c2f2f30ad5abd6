-- Lists that grow at their end: what holds of each element, and of each element and each later one.
use Rattle.std.proofs.Common.{◌≡◌, ℕ, suc, false, refl, length, List, [], ◌∷◌, ◌++◌, map, arith}
use Rattle.std.specs.Prelude.{AllPairs, ◌==◌}
use Rattle.std.specs.List.{AllByRecursion}
use Rattle.std.proofs.lemmas.List.Elements.{All-from_recursion, recursion_from_All}
use Rattle.std.proofs.lemmas.List.Kept.{AllPairs-cons}

pub every_push : {X : Type 0} (P : X → Type 0) (xs : List X) (y : X) → AllByRecursion P xs → P y → AllByRecursion P (xs ++ y ∷ [])
every_push P [] y are is = (is, tt)
every_push P (x ∷ xs) y are is = (are.0, every_push P xs y are.1 is)

pub every_pop : {X : Type 0} (P : X → Type 0) (xs : List X) (y : X) → AllByRecursion P (xs ++ y ∷ []) → AllByRecursion P xs × P y
every_pop P [] y are = (tt, are.0)
every_pop P (x ∷ xs) y are = let r = every_pop P xs y are.1 in ((are.0, r.0), r.1)

pub every_weaker : {X : Type 0} (P Q : X → Type 0) → ((x : X) → P x → Q x) → (xs : List X) → AllByRecursion P xs → AllByRecursion Q xs
every_weaker P Q so [] are = tt
every_weaker P Q so (x ∷ xs) are = (so x are.0, every_weaker P Q so xs are.1)

pub every_map : {X Y : Type 0} (P : Y → Type 0) (f : X → Y) (xs : List X) → AllByRecursion (λ x. P (f x)) xs → AllByRecursion P (map f xs)
every_map P f [] are = tt
every_map P f (x ∷ xs) are = (are.0, every_map P f xs are.1)

pub every_unmap : {X Y : Type 0} (P : Y → Type 0) (f : X → Y) (xs : List X) → AllByRecursion P (map f xs) → AllByRecursion (λ x. P (f x)) xs
every_unmap P f [] are = tt
every_unmap P f (x ∷ xs) are = (are.0, every_unmap P f xs are.1)

-- R holds of each element and each later one.
abbrev pub Pairwise : {X : Type 0} → (X → X → Type 0) → List X → Type 0
Pairwise R [] = Unit {0}
Pairwise R (x ∷ xs) = AllByRecursion (R x) xs × Pairwise R xs

pub pairs_push : {X : Type 0} (R : X → X → Type 0) (xs : List X) (y : X) → Pairwise R xs → AllByRecursion (λ x. R x y) xs → Pairwise R (xs ++ y ∷ [])
pairs_push R [] y are new = (tt, tt)
pairs_push R (x ∷ xs) y are new = (every_push (R x) xs y are.0 new.0, pairs_push R xs y are.1 new.1)

pub pairs_pop : {X : Type 0} (R : X → X → Type 0) (xs : List X) (y : X) → Pairwise R (xs ++ y ∷ []) → Pairwise R xs × AllByRecursion (λ x. R x y) xs
pairs_pop R [] y are = (tt, tt)
pairs_pop R (x ∷ xs) y are =
    let r = pairs_pop R xs y are.1 in
    let h = every_pop (R x) xs y are.0 in
    ((h.0, r.0), (h.1, r.1))

pub pairs_unmap : {X Y : Type 0} (R : Y → Y → Type 0) (f : X → Y) (xs : List X) → Pairwise R (map f xs) → Pairwise (λ a b. R (f a) (f b)) xs
pairs_unmap R f [] are = tt
pairs_unmap R f (x ∷ xs) are = (every_unmap (R (f x)) f xs are.0, pairs_unmap R f xs are.1)

pub pairs_map : {X Y : Type 0} (R : Y → Y → Type 0) (f : X → Y) (xs : List X) → Pairwise (λ a b. R (f a) (f b)) xs → Pairwise R (map f xs)
pairs_map R f [] are = tt
pairs_map R f (x ∷ xs) are = (every_map (R (f x)) f xs are.0, pairs_map R f xs are.1)

every_both : {X : Type 0} (P Q S : X → Type 0) → ((x : X) → P x → Q x → S x) → (xs : List X) → AllByRecursion P xs → AllByRecursion Q xs → AllByRecursion S xs
every_both P Q S so [] p q = tt
every_both P Q S so (x ∷ xs) p q = (so x p.0 q.0, every_both P Q S so xs p.1 q.1)

pub pairs_weaker : {X : Type 0} (Q : X → Type 0) (R S : X → X → Type 0) → ((a b : X) → Q a → Q b → R a b → S a b) → (xs : List X) → AllByRecursion Q xs → Pairwise R xs → Pairwise S xs
pairs_weaker Q R S so [] q are = tt
pairs_weaker Q R S so (x ∷ xs) q are = (every_both Q (R x) (S x) (λ y qy r. so x y q.0 qy r) xs q.1 are.0, pairs_weaker Q R S so xs q.1 are.1)

pub pairs_all : {X : Type 0} (R : X → X → Type 0) (xs : List X) → Pairwise R xs → AllPairs R xs
pairs_all R [] are = λ i j d lt le. absurd (omega arith)
pairs_all R (x ∷ xs) are = AllPairs-cons R x xs (All-from_recursion (R x) xs are.0) (pairs_all R xs are.1)

pub pairs_of_all : {X : Type 0} (R : X → X → Type 0) (xs : List X) → AllPairs R xs → Pairwise R xs
pairs_of_all R [] are = tt
pairs_of_all R (x ∷ xs) are = (
  recursion_from_All (R x) xs (λ k d lt. are 0 (suc k) d (omega arith) (omega (arith, lt))),
  pairs_of_all R xs (λ i j d lt le. are (suc i) (suc j) d (omega (arith, lt)) (omega (arith, le))),
)

pub one_item : {X : Type 0} (xs : List X) (x : X) → (length (xs ++ x ∷ []) == 0) ≡ false
one_item [] x = refl
one_item (y ∷ xs) x = go (length (xs ++ x ∷ []))
  where
    go : (n : ℕ) → (suc n == 0) ≡ false
    go n = grind arith
