-- A view of each element of a list, and a list that was mapped and then pushed onto.
use Rattle.std.proofs.Common.{◌≡◌, ℕ, suc, zero, ◌<◌, Bool, cond, Some, List, [], ◌∷◌, ◌++◌, length, map, refl, sym, ap, ◌∙◌, arith}
use Rattle.std.specs.Prelude.{option_map, slice_get}
use Rattle.std.proofs.lemmas.Option.{none-some, same_Some}
use Rattle.drt_worklist.specs.Places.{first, changed}

-- a view of each element
pub first-map : {A B : Type 0} (p : B → Bool) (v : A → B) (xs : List A) → first p (map v xs) ≡ first (λ x. p (v x)) xs
first-map p v [] = refl
first-map p v (x ∷ xs) = ap (λ o. cond (p (v x)) (Some 0) (option_map suc o)) (first-map p v xs)

pub map-changed : {A B : Type 0} (v : A → B) (f : A → A) (g : B → B) → ((x : A) → v (f x) ≡ g (v x)) → (k : ℕ) (xs : List A) → map v (changed k f xs) ≡ changed k g (map v xs)
map-changed v f g e k [] = refl
map-changed v f g e zero (x ∷ xs) = ap (λ y. y ∷ map v xs) (e x)
map-changed v f g e (suc k) (x ∷ xs) = ap (λ ys. v x ∷ ys) (map-changed v f g e k xs)

pub map-map_with : {A B : Type 0} (v : A → B) (f : A → A) (g : B → B) → ((x : A) → v (f x) ≡ g (v x)) → (xs : List A) → map v (map f xs) ≡ map g (map v xs)
map-map_with v f g e [] = refl
map-map_with v f g e (x ∷ xs) = ap (λ y. y ∷ map v (map f xs)) (e x) ∙ ap (λ ys. g (v x) ∷ ys) (map-map_with v f g e xs)

pub map-changed_same : {A B : Type 0} (v : A → B) (f : A → A) → ((x : A) → v (f x) ≡ v x) → (k : ℕ) (xs : List A) → map v (changed k f xs) ≡ map v xs
map-changed_same v f e k [] = refl
map-changed_same v f e zero (x ∷ xs) = ap (λ y. y ∷ map v xs) (e x)
map-changed_same v f e (suc k) (x ∷ xs) = ap (λ ys. v x ∷ ys) (map-changed_same v f e k xs)

pub map-map_same : {A B : Type 0} (v : A → B) (f : A → A) → ((x : A) → v (f x) ≡ v x) → (xs : List A) → map v (map f xs) ≡ map v xs
map-map_same v f e [] = refl
map-map_same v f e (x ∷ xs) = ap (λ y. y ∷ map v (map f xs)) (e x) ∙ ap (λ ys. v x ∷ ys) (map-map_same v f e xs)

-- what stood at a place of a list that was mapped and then pushed onto
pub data Pushed {A : Type 0} (f : A → A) (xs : List A) (z : A) (j : ℕ) (y : A) : Type 0 where
  earlier : (x : A) → slice_get xs j ≡ Some x → y ≡ f x → j < length xs → Pushed f xs z j y
  last : j ≡ length xs → y ≡ z → Pushed f xs z j y

pub before_push : {A : Type 0} (f : A → A) (xs : List A) (z : A) (j : ℕ) (y : A) → slice_get (map f xs ++ z ∷ []) j ≡ Some y → Pushed f xs z j y
before_push f [] z zero y h = last refl (sym (same_Some z y h))
before_push f [] z (suc j) y h = absurd (none-some y h)
before_push f (x ∷ xs) z zero y h = earlier x refl (sym (same_Some (f x) y h)) (omega arith)
before_push f (x ∷ xs) z (suc j) y h = lift (before_push f xs z j y h)
  where
    lift : Pushed f xs z j y → Pushed f (x ∷ xs) z (suc j) y
    lift (earlier w at is lt) = earlier w at is (omega arith)
    lift (last e is) = last (ap suc e) is

pub after_push : {A : Type 0} (f : A → A) (xs : List A) (z : A) (j : ℕ) (x : A) → slice_get xs j ≡ Some x → slice_get (map f xs ++ z ∷ []) j ≡ Some (f x)
after_push f [] z j x h = absurd (none-some x h)
after_push f (w ∷ xs) z zero x h = ap (λ v. Some (f v)) (same_Some w x h)
after_push f (w ∷ xs) z (suc j) x h = after_push f xs z j x h

pub at_last : {A : Type 0} (f : A → A) (xs : List A) (z : A) → slice_get (map f xs ++ z ∷ []) (length xs) ≡ Some z
at_last f [] z = refl
at_last f (x ∷ xs) z = at_last f xs z
