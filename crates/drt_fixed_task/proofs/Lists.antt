-- Lists whose items stand side by side.
use Rattle.std.proofs.Common.{◌≡◌, ℕ, zero, suc, ◌+◌, ◌<◌, List, [], ◌∷◌, ◌++◌, length, map, get_or, refl, sym, ap, ◌∙◌, arith}
use Rattle.std.specs.List.{AllByRecursion, AllZip}

-- They are as many.
pub zip_long : {A B : Type 0} (R : A → B → Type 0) (xs : List A) (ys : List B) → AllZip R xs ys → length xs ≡ length ys
zip_long R [] [] all = refl
zip_long R [] (y ∷ ys) all = absurd all
zip_long R (x ∷ xs) [] all = absurd all
zip_long R (x ∷ xs) (y ∷ ys) all = ap (λ n. suc n) (zip_long R xs ys all.1)

-- One more on each side.
pub zip_push : {A B : Type 0} (R : A → B → Type 0) (xs : List A) (ys : List B) (x : A) (y : B) → AllZip R xs ys → R x y → AllZip R (xs ++ x ∷ []) (ys ++ y ∷ [])
zip_push R [] [] x y all is = (is, tt)
zip_push R [] (b ∷ ys) x y all is = absurd all
zip_push R (a ∷ xs) [] x y all is = absurd all
zip_push R (a ∷ xs) (b ∷ ys) x y all is = (all.0, zip_push R xs ys x y all.1 is)

-- What two functions make of each item.
pub zip_each : {A B C : Type 0} (R : B → C → Type 0) (f : A → B) (g : A → C) (xs : List A) → AllZip R (map f xs) (map g xs) → AllByRecursion (λ x. R (f x) (g x)) xs
zip_each R f g [] all = tt
zip_each R f g (x ∷ xs) all = (all.0, zip_each R f g xs all.1)

pub each_zip : {A B C : Type 0} (R : B → C → Type 0) (f : A → B) (g : A → C) (xs : List A) → AllByRecursion (λ x. R (f x) (g x)) xs → AllZip R (map f xs) (map g xs)
each_zip R f g [] all = tt
each_zip R f g (x ∷ xs) all = (all.0, each_zip R f g xs all.1)

-- Two functions that agree on each item.
pub map_same : {A B : Type 0} (f g : A → B) (xs : List A) → AllByRecursion (λ x. f x ≡ g x) xs → map f xs ≡ map g xs
map_same f g [] all = refl
map_same f g (x ∷ xs) all = ap (λ y. y ∷ map f xs) all.0 ∙ ap (λ ys. g x ∷ ys) (map_same f g xs all.1)

-- What each item is, with one more at the end.
pub push_each : {A : Type 0} (d : A) (f : ℕ → A) (xs : List A) (n : ℕ) (x : A) → length xs ≡ n → ((i : ℕ) → i < n → get_or xs i d ≡ f i) → x ≡ f n
    → (i : ℕ) → i < n + 1 → get_or (xs ++ x ∷ []) i d ≡ f i
push_each d f [] n x long each here zero l = here ∙ ap f long_is
  where
    long_is : n ≡ zero
    long_is = sym long
push_each d f [] n x long each here (suc i) l = absurd (omega (arith, long))
push_each d f (y ∷ xs) n x long each here zero l = each zero (omega (arith, long))
push_each d f (y ∷ xs) n x long each here (suc i) l =
    let m : ℕ = length xs in
    let same : n ≡ suc m = sym long in
    push_each d (λ j. f (suc j)) xs m x refl (λ j h. each (suc j) (omega (arith, long, h))) (here ∙ ap f same) i (omega (arith, long, l))
