-- What a line is, from its bytes and its fields.
use Rattle.std.specs.Prelude.{ℕ, Bool, true, false, not, ◌||◌, ◌==◌, List, [], ◌∷◌, filter, map}
use Rattle.drt_file.specs.trusted.Cutting.{is_blank, fields, lines}
use Rattle.drt_file.specs.trusted.Words.{is_between, value}

-- A line is skipped where it has no field, or where its first byte that isn't a blank is `#`.
unfoldable pub is_skipped : List (List ℕ) → Bool
is_skipped [] = true
is_skipped ([] ∷ words) = false
is_skipped ((b ∷ bs) ∷ words) = b == 35

-- What a text says is the fields of those of its lines that aren't skipped.
abbrev pub said : List ℕ → List (List (List ℕ))
said text = filter (λ words. not (is_skipped words)) (map fields (lines text))

-- A byte that may stand in a line is a blank or printable ASCII.
unfoldable pub is_text : ℕ → Bool
is_text b = is_blank b || is_between 33 126 b

-- A time or a priority is in range where it is 1 to 1,000,000.
abbrev pub is_in_range : List ℕ → Bool
is_in_range word = is_between 1 1000000 (value word)
