-- How a text is cut into lines, and a line into fields.
use Rattle.std.specs.Prelude.{◌≢◌, ℕ, Bool, ◌||◌, ◌==◌, if◌then◌else◌, List, [], ◌∷◌, ◌++◌, map}
use Rattle.std.specs.List.{flat_map, AllByRecursion}

-- A run, unless it has no byte, before others.
unfoldable pub with_run : List ℕ → List (List ℕ) → List (List ℕ)
with_run [] others = others
with_run (c ∷ cs) others = (c ∷ cs) ∷ others

-- The lines, where the bytes so far of the first line stand apart: each line ends at a LF, or at the text's end where bytes
-- of it stand there.
unfoldable pub lines_after : List ℕ → List ℕ → List (List ℕ)
lines_after begun [] = with_run begun []
lines_after begun (b ∷ bs) = if b == 10 then begun ∷ lines_after [] bs else lines_after (begun ++ b ∷ []) bs

-- The lines of a text, without their LFs. A text that ends with LF has no further line after it.
abbrev pub lines : List ℕ → List (List ℕ)
lines text = lines_after [] text

-- A blank is a space, a tab or a CR.
unfoldable pub is_blank : ℕ → Bool
is_blank b = b == 32 || b == 9 || b == 13

-- The fields, where the bytes so far of the first one stand apart: each ends at a blank or at the line's end.
unfoldable pub fields_after : List ℕ → List ℕ → List (List ℕ)
fields_after begun [] = with_run begun []
fields_after begun (b ∷ bs) = if is_blank b then with_run begun (fields_after [] bs) else fields_after (begun ++ b ∷ []) bs

-- The fields of a line: the longest runs of bytes that aren't blanks.
abbrev pub fields : List ℕ → List (List ℕ)
fields line = fields_after [] line

-- The fields of each line of a text.
abbrev pub lines_of_fields : List ℕ → List (List (List ℕ))
lines_of_fields text = map fields (lines text)

-- Lines with a LF behind each.
abbrev pub fed : List (List ℕ) → List ℕ
fed ls = flat_map (λ line. line ++ 10 ∷ []) ls

-- A line has no LF.
abbrev pub HasNoFeed : List ℕ → Type 0
HasNoFeed line = AllByRecursion (λ b. b ≢ 10) line
