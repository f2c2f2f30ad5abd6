-- The words of a classic file.
use Rattle.std.specs.Prelude.{ℕ, List, [], ◌∷◌, codes}

-- The word `drt-classic`.
abbrev pub classic_word : List ℕ
classic_word = codes "drt-classic"

-- The first line: `drt-classic 1`.
abbrev pub head_line : List (List ℕ)
head_line = codes "drt-classic" ∷ codes "1" ∷ []

-- The keyword `sporadic`.
abbrev pub sporadic_word : List ℕ
sporadic_word = codes "sporadic"

-- The keyword `multiframe`.
abbrev pub multiframe_word : List ℕ
multiframe_word = codes "multiframe"

-- The keyword `gmf`.
abbrev pub gmf_word : List ℕ
gmf_word = codes "gmf"

-- The keyword `noncyclic`.
abbrev pub noncyclic_word : List ℕ
noncyclic_word = codes "noncyclic"

-- The keyword `frame`.
abbrev pub frame_word : List ℕ
frame_word = codes "frame"
