-- What holds of each of some items, item by item.
use Rattle.std.proofs.Common.{◌≡◌, ℕ, zero, suc, ◌+◌, ◌-◌, ◌<◌, ◌≤◌, ◌⊎◌, inl, inr, All, List, [], ◌∷◌, length, get_or, ap, sym, subst, arith, ◌∙◌}
use Rattle.std.specs.Prelude.{IsSomeAnd, slice_get}
use Rattle.std.proofs.lemmas.Bool.{cases_lt}
use Rattle.std.proofs.lemmas.List.{get_or_default}
use Rattle.drt_model.specs.Legal.{AllNeighbours}

-- One more item.
pub all_more : {X : Type 0} (P : X → Type 0) (xs : List X) (i : ℕ) (x : X) → i < length xs → x ≡ get_or xs i x → P x
    → ((k : ℕ) (d : X) → k < i → P (get_or xs k d)) → (k : ℕ) (d : X) → k < i + 1 → P (get_or xs k d)
all_more {X} P xs i x l is here so_far k d m = go (cases_lt k i)
  where
    go : (k < i) ⊎ (i ≤ k) → P (get_or xs k d)
    go (inl q) = so_far k d q
    go (inr q) =
        let e : i ≡ k = omega arith in
        let f : x ≡ get_or xs k d = is ∙ (get_or_default xs i x d l ∙ ap (λ (n : ℕ). get_or xs n d) e) in
        subst P f here

-- What fails of an item fails of all.
pub all_not : {X : Type 0} (P : X → Type 0) (xs : List X) (i : ℕ) (x : X) → i < length xs → x ≡ get_or xs i x → (P x → ⊥) → All P xs → ⊥
all_not P xs i x l is fails all = fails (subst P (sym is) (all i x l))

-- What holds of the first item.
pub first_is : {X : Type 0} (P : X → Type 0) (xs : List X) (x : X) → 0 < length xs → x ≡ get_or xs 0 x → P x → IsSomeAnd (slice_get xs 0) P
first_is P [] x l is here = absurd (omega arith)
first_is P (y ∷ xs) x l is here = subst P is here

pub first_of_is : {X : Type 0} (P : X → Type 0) (xs : List X) (x : X) → 0 < length xs → x ≡ get_or xs 0 x → IsSomeAnd (slice_get xs 0) P → P x
first_of_is P [] x l is here = absurd (omega arith)
first_of_is P (y ∷ xs) x l is here = subst P (sym is) here

-- Items that ascend from each to the next ascend from each to all after it.
ascending_by : {X : Type 0} (f : X → ℕ) (xs : List X) → AllNeighbours (λ a b. f a < f b) xs → (i k : ℕ) (d : X) → i + k < length xs → f (get_or xs i d) ≤ f (get_or xs (i + k) d)
ascending_by f xs is i zero d l =
    let e : i ≡ i + 0 = omega arith in
    let same : f (get_or xs i d) ≤ f (get_or xs i d) = omega arith in subst (λ (n : ℕ). f (get_or xs i d) ≤ f (get_or xs n d)) e same
ascending_by f xs is i (suc k) d l =
    let e : i + k + 1 ≡ i + suc k = omega arith in
    let step : f (get_or xs (i + k) d) < f (get_or xs (i + k + 1) d) = is (i + k) d (omega arith) in
    let next : f (get_or xs (i + k) d) < f (get_or xs (i + suc k) d) = subst (λ (n : ℕ). f (get_or xs (i + k) d) < f (get_or xs n d)) e step in
    let so_far = ascending_by f xs is i k d (omega arith) in
    omega (arith, so_far, next)

pub ascending_to : {X : Type 0} (f : X → ℕ) (xs : List X) → AllNeighbours (λ a b. f a < f b) xs → (i k : ℕ) (d : X) → i ≤ k → k < length xs → f (get_or xs i d) ≤ f (get_or xs k d)
ascending_to f xs is i k d l m =
    let e : i + (k - i) ≡ k = omega arith in
    subst (λ (n : ℕ). f (get_or xs i d) ≤ f (get_or xs n d)) e (ascending_by f xs is i (k - i) d (omega arith))
