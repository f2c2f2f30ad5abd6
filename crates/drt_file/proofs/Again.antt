-- What is written is cut as it was written.
use Rattle.std.proofs.Common.{◌≡◌, ◌≢◌, ℕ, ◌<◌, ◌≤◌, true, false, List, [], ◌∷◌, ◌++◌, length, map, refl, sym, ap, ◌∙◌, append_assoc, arith}
use Rattle.std.proofs.lemmas.List.{append-nil}
use Rattle.std.specs.List.{AllByRecursion, join_with_byte}
use Rattle.drt_file.specs.trusted.Cutting.{lines, lines_after, is_blank, fields, fields_after, with_run, lines_of_fields}
use Rattle.drt_file.specs.trusted.Canonical.{written, written_line}
use Rattle.drt_file.proofs.Cuts.{past_byte, at_feed, at_blank, at_other, at_end, with_run_of}

-- What holds of each element of two lists holds of each of both.
pub all_of_both : {X : Type 0} (P : X → Type 0) (xs ys : List X) → AllByRecursion P xs → AllByRecursion P ys → AllByRecursion P (xs ++ ys)
all_of_both P [] ys are more = more
all_of_both P (x ∷ xs) ys are more = (are.0, all_of_both P xs ys are.1 more)

-- A line without a LF, then a LF.
pub line_again : (begun line rest : List ℕ) → AllByRecursion (λ b. b ≢ 10) line → lines_after begun (line ++ 10 ∷ rest) ≡ (begun ++ line) ∷ lines rest
line_again begun [] rest none = at_feed begun rest 10 refl ∙ ap (λ l. l ∷ lines rest) (sym (append-nil begun))
line_again begun (b ∷ line) rest none = past_byte begun (line ++ 10 ∷ rest) b none.0 ∙ line_again (begun ++ b ∷ []) line rest none.1 ∙ ap (λ l. l ∷ lines rest) (append_assoc begun (b ∷ []) line)

-- A field goes on over bytes that aren't blanks.
pub field_again : (begun field rest : List ℕ) → AllByRecursion (λ b. is_blank b ≡ false) field → fields_after begun (field ++ rest) ≡ fields_after (begun ++ field) rest
field_again begun [] rest none = ap (λ run. fields_after run rest) (sym (append-nil begun))
field_again begun (b ∷ field) rest none = at_other begun (field ++ rest) b none.0 ∙ field_again (begun ++ b ∷ []) field rest none.1
    ∙ ap (λ run. fields_after run rest) (append_assoc begun (b ∷ []) field)

space : is_blank 32 ≡ true
unfolding is_blank
space = refl

-- A field, a space, and more; and the last field.
pub first_again : (field rest : List ℕ) → 0 < length field → AllByRecursion (λ b. is_blank b ≡ false) field → fields (field ++ 32 ∷ rest) ≡ field ∷ fields rest
first_again field rest has none = field_again [] field (32 ∷ rest) none ∙ at_blank field rest 32 space ∙ with_run_of field (fields rest) has

pub last_again : (field : List ℕ) → 0 < length field → AllByRecursion (λ b. is_blank b ≡ false) field → fields field ≡ field ∷ []
last_again field has none = ap fields (sym (append-nil field)) ∙ field_again [] field [] none ∙ at_end field ∙ with_run_of field [] has

-- A field to be written: bytes above the space.
pub record IsField (word : List ℕ) : Type 0 where
  pub has_byte : 0 < length word
  pub bytes : AllByRecursion (λ b. 33 ≤ b) word

not_blank : (b : ℕ) → 33 ≤ b → is_blank b ≡ false
unfolding is_blank
not_blank b high = grind (arith, high)

no_blank : (word : List ℕ) → AllByRecursion (λ b. 33 ≤ b) word → AllByRecursion (λ b. is_blank b ≡ false) word
no_blank [] are = are
no_blank (b ∷ word) are = (not_blank b are.0, no_blank word are.1)

no_feed : (word : List ℕ) → AllByRecursion (λ b. 33 ≤ b) word → AllByRecursion (λ b. b ≢ 10) word
no_feed [] are = are
no_feed (b ∷ word) are = ((λ e. absurd (omega (arith, e, are.0))), no_feed word are.1)

-- Fields that are parted by one space are cut at the spaces.
pub joined_again : (ws : List (List ℕ)) → AllByRecursion IsField ws → fields (join_with_byte 32 ws) ≡ ws
unfolding fields_after with_run
joined_again [] are = refl
joined_again (w ∷ []) are = last_again w are.0.has_byte (no_blank w are.0.bytes)
joined_again (w ∷ x ∷ ws) are = first_again w (join_with_byte 32 (x ∷ ws)) are.0.has_byte (no_blank w are.0.bytes) ∙ ap (λ others. w ∷ others) (joined_again (x ∷ ws) are.1)

-- They have no LF.
pub joined_no_feed : (ws : List (List ℕ)) → AllByRecursion IsField ws → AllByRecursion (λ b. b ≢ 10) (join_with_byte 32 ws)
joined_no_feed [] are = are
joined_no_feed (w ∷ []) are = no_feed w are.0.bytes
joined_no_feed (w ∷ x ∷ ws) are =
    all_of_both (λ b. b ≢ 10) w (32 ∷ join_with_byte 32 (x ∷ ws)) (no_feed w are.0.bytes)
    ((λ e. absurd (omega (arith, e))), joined_no_feed (x ∷ ws) are.1)

-- Lines of fields that are written are cut as they were.
pub written_again : (ls : List (List (List ℕ))) → AllByRecursion (AllByRecursion IsField) ls → lines_of_fields (written ls) ≡ ls
unfolding lines_after with_run written_line
written_again [] are = refl
written_again (l ∷ ls) are =
    ap lines_of_fields (append_assoc (join_with_byte 32 l) (10 ∷ []) (written ls))
    ∙ ap (map fields) (line_again [] (join_with_byte 32 l) (written ls) (joined_no_feed l are.0))
    ∙ ap (λ words. words ∷ lines_of_fields (written ls)) (joined_again l are.0)
    ∙ ap (λ others. l ∷ others) (written_again ls are.1)
