-- A loop that turns the elements of a list into those of another, one by one.
use Rattle.std.proofs.Common.{◌≡◌, ◌∙◌, ℕ, ◌+◌, ◌<◌, List, [], ◌∷◌, ◌++◌, ap, get_or, length, map, sym, take}
use Rattle.std.proofs.lemmas.List.{map_more}

pub one_more : {X Y : Type 0} (f : X → Y) (xs : List X) (i : ℕ) (d : X) (y : Y) (old new : List Y) → i < length xs → new ≡ old ++ y ∷ []
    → old ≡ map f (take i xs) → y ≡ f (get_or xs i d) → new ≡ map f (take (i + 1) xs)
one_more {X} {Y} f xs i d y old new here is before one =
    is ∙ (ap (λ (ys : List Y). ys ++ y ∷ []) before ∙ (ap (λ (z : Y). map f (take i xs) ++ z ∷ []) one ∙ sym (map_more f xs i d here)))
