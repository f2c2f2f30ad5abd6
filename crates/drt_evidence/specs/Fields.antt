-- Fields of a line behind its first.
use Rattle.std.specs.Prelude.{ℕ, List, ◌∷◌}
use Rattle.std.specs.List.{flat_map}

-- Fields as they stand in a line behind its first: each with a space before it.
abbrev pub behind : List (List ℕ) → List ℕ
behind fields = flat_map (λ field. 32 ∷ field) fields
