-- Two lists, item by item.
use Rattle.std.specs.Prelude.{List, [], ◌∷◌}

-- The lists have as many items, and R holds of each item of the first and the one at its place in the second.
abbrev pub Each : {A B : Type 0} → (A → B → Type 0) → List A → List B → Type 0
Each R [] [] = Unit {0}
Each R [] (y ∷ ys) = ⊥
Each R (x ∷ xs) [] = ⊥
Each R (x ∷ xs) (y ∷ ys) = R x y × Each R xs ys
