-- What a line says: the one value in range whose fields it is.
use Rattle.std.specs.Prelude.{◌≡◌, ℕ, ◌<◌, ◌≤◌, ℤ, true, slice_index, List, [], ◌∷◌, ◌++◌, length, map, All, Option, Some, None, codes, decimal}
use Rattle.std.specs.List.{join_with_byte, AllByRecursion, list_all}
use Rattle.std.specs.Prelude.{◌≢◌}
use Rattle.std.specs.Fmt.{signed_decimal}
use Rattle.drt_file.specs.trusted.Words.{is_digit, policy_word}
use Rattle.drt_model.specs.declared.jobs.Policy.{Policy}
use Rattle.drt_evidence.specs.Fields.{behind}
use Rattle.drt_claims.specs.Ranges.{IsCounted, IsNumber}
use Rattle.drt_evidence.specs.Text.{list_line}
use Rattle.drt_claims.specs.declared.evidence.Evidence.{Evidence}
use Rattle.drt_claims.specs.declared.evidence.Evidence.TheVariants as evidence
use Rattle.drt_evidence.specs.declared.reading.line_forms.KindOfEvidence.{KindOfEvidence}
use Rattle.drt_evidence.specs.declared.reading.line_forms.KindOfEvidence.TheVariants as kinds
use Rattle.drt_evidence.specs.declared.reading.line_forms.WrittenRatio.{WrittenRatio}
use Rattle.drt_evidence.specs.declared.reading.line_forms.WrittenSearch.{WrittenSearch}

-- The bytes are the form of x, which is in range, and of no other value in range.
pub record IsForm {A : Type 0} (form : A → List ℕ) (In : A → Type 0) (bytes : List ℕ) (x : A) : Type 0 where
  pub in_range : In x
  pub is : bytes ≡ form x
  pub only : (y : A) → In y → bytes ≡ form y → y ≡ x

-- The bytes are the form of no value in range.
abbrev pub IsNoForm : {A : Type 0} → (A → List ℕ) → (A → Type 0) → List ℕ → Type 0
IsNoForm {A} form In bytes = (y : A) → In y → ¬ (bytes ≡ form y)

-- The line, without its LF, is the fields of x, which is in range, and of no other value in range.
abbrev pub IsLineOf : {A : Type 0} → (A → List (List ℕ)) → (A → Type 0) → List ℕ → A → Type 0
IsLineOf fields In line x = IsForm (λ y. join_with_byte 32 (fields y)) In line x

-- The line is the fields of no value in range.
abbrev pub IsNoLine : {A : Type 0} → (A → List (List ℕ)) → (A → Type 0) → List ℕ → Type 0
IsNoLine fields In line = IsNoForm (λ y. join_with_byte 32 (fields y)) In line

-- Each value is in range.
abbrev pub IsAny : {A : Type 0} → A → Type 0
IsAny x = Unit {0}

-- A field has no space.
abbrev pub HasNoSpace : List ℕ → Type 0
HasNoSpace field = AllByRecursion (λ b. b ≢ 32) field

-- The form of each value in range has no space.
abbrev pub IsFieldForm : {A : Type 0} → (A → List ℕ) → (A → Type 0) → Type 0
IsFieldForm {A} f P = (x : A) → P x → HasNoSpace (f x)

-- Bytes are digits as a number has them: at least one, and a zero first only where it is alone.
abbrev pub IsNumeral : List ℕ → Type 0
IsNumeral ds = (0 < length ds) × (slice_index ds 0 ≡ 48 → length ds ≡ 1) × (list_all is_digit ds ≡ true)

-- What stands behind a field, with the space before it, where there is one.
abbrev pub spaced : Option (List ℕ) → List ℕ
spaced None = []
spaced (Some rest) = 32 ∷ rest

-- The form of bytes is the bytes.
abbrev pub itself : List ℕ → List ℕ
itself bytes = bytes

-- The form of two values: a space stands between theirs.
abbrev pub pair_form : {A B : Type 0} → (A → List ℕ) → (B → List ℕ) → A × B → List ℕ
pair_form f g p = f p.0 ++ 32 ∷ g p.1

-- Both of two values are in range.
abbrev pub AreBoth : {A B : Type 0} → (A → Type 0) → (B → Type 0) → A × B → Type 0
AreBoth P Q p = P p.0 × Q p.1

-- The form of a list: how many fields follow, and these.
abbrev pub list_form : {A : Type 0} → (A → List ℕ) → List A → List ℕ
list_form f xs = decimal (length xs) ++ behind (map f xs)

-- The items of a list are in range, and counted.
abbrev pub AreItemsCounted : {A : Type 0} → (A → Type 0) → List A → Type 0
AreItemsCounted P xs = All P xs × IsCounted xs

-- The line of a policy.
abbrev pub policy_line : Policy → List (List ℕ)
policy_line policy = codes "policy" ∷ policy_word policy ∷ []

-- The keyword of a kind of evidence.
abbrev pub kind_keyword : KindOfEvidence → List ℕ
kind_keyword kinds.EdfYes = codes "edf-yes"
kind_keyword kinds.EdfNo = codes "edf-no"
kind_keyword kinds.UtilisationOne = codes "utilisation-one"
kind_keyword kinds.FixedYes = codes "fixed-yes"
kind_keyword kinds.FixedStates = codes "fixed-states"
kind_keyword kinds.FixedNo = codes "fixed-no"
kind_keyword kinds.Undecided = codes "undecided"

-- The line of a kind of evidence, the first below the set.
abbrev pub kind_line : KindOfEvidence → List (List ℕ)
kind_line kind = codes "evidence" ∷ kind_keyword kind ∷ []

-- The kind of evidence.
abbrev pub kind_of : Evidence → KindOfEvidence
kind_of (evidence.EdfYes ratios fronts) = kinds.EdfYes
kind_of (evidence.EdfNo releases miss) = kinds.EdfNo
kind_of (evidence.UtilisationOne ratios) = kinds.UtilisationOne
kind_of (evidence.FixedYes trees proofs) = kinds.FixedYes
kind_of (evidence.FixedStates tails searches) = kinds.FixedStates
kind_of (evidence.FixedNo releases miss) = kinds.FixedNo
kind_of evidence.Undecided = kinds.Undecided

-- The line of the numerator and the denominator of a ratio.
abbrev pub written_ratio_line : WrittenRatio → List (List ℕ)
written_ratio_line r = codes "ratio" ∷ decimal r.num ∷ decimal r.den ∷ []

-- The numerator is at most 10^9, and the denominator 1 to 10^9.
pub record IsInRangeWritten (r : WrittenRatio) : Type 0 where
  pub num : r.num ≤ 1000000000
  pub some : 1 ≤ r.den
  pub den : r.den ≤ 1000000000

-- The first line of a search: its task, its vertex, and how many states.
abbrev pub written_search_line : WrittenSearch → List (List ℕ)
written_search_line s = codes "search" ∷ decimal s.task ∷ decimal s.vertex ∷ decimal s.count ∷ []

-- The first line of a search has numbers of a task and a vertex, and such a count.
pub record IsInRangeWrittenSearch (s : WrittenSearch) : Type 0 where
  pub task : IsNumber s.task
  pub vertex : IsNumber s.vertex
  pub count : IsNumber s.count

-- The line of a list of numbers.
abbrev pub numbers_line : List ℕ → List ℕ → List (List ℕ)
numbers_line word xs = list_line word (map decimal xs)

-- The line of potentials.
abbrev pub potentials_line : List ℤ → List (List ℕ)
potentials_line heights = list_line (codes "potentials") (map signed_decimal heights)
