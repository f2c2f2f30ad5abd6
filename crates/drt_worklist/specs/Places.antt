-- Places in a list: the first that passes a test, all that pass, a change at one place, and a sum.
use Rattle.std.specs.Prelude.{ℕ, suc, zero, ◌+◌, Bool, Option, None, Some, option_map, List, [], ◌∷◌, if◌then◌else◌}

-- The first place at which p passes.
abbrev pub first : {A : Type 0} → (A → Bool) → List A → Option ℕ
first p [] = None
first p (x ∷ xs) = if p x then Some 0 else option_map suc (first p xs)

-- The places at which p passes, in order, where the first one of the list has the number i.
abbrev pub places_from : {A : Type 0} → ℕ → (A → Bool) → List A → List ℕ
places_from i p [] = []
places_from i p (x ∷ xs) = if p x then i ∷ places_from (suc i) p xs else places_from (suc i) p xs

-- The places at which p passes, in order.
abbrev pub places : {A : Type 0} → (A → Bool) → List A → List ℕ
places p xs = places_from 0 p xs

-- The list with f applied at place k.
abbrev pub changed : {A : Type 0} → ℕ → (A → A) → List A → List A
changed k f [] = []
changed zero f (x ∷ xs) = f x ∷ xs
changed (suc k) f (x ∷ xs) = x ∷ changed k f xs

-- The sum of f over the elements.
abbrev pub total : {A : Type 0} → (A → ℕ) → List A → ℕ
total f [] = 0
total f (x ∷ xs) = f x + total f xs
