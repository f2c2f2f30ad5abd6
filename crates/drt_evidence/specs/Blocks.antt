-- Blocks of a text: the block of a value at the front of a text, or where the text stops being one.
use Rattle.std.specs.Prelude.{◌≡◌, ℕ, ◌+◌, Bool, true, false, List, [], ◌∷◌, ◌++◌, length, codes}
use Rattle.std.specs.List.{AllByRecursion, flat_map}
use Rattle.drt_file.specs.trusted.Canonical.{written, written_line}
use Rattle.drt_file.specs.trusted.Cutting.{fed, HasNoFeed}
use Rattle.drt_model.specs.declared.jobs.Release.{Release}
use Rattle.drt_model.specs.declared.jobs.Miss.{Miss}
use Rattle.drt_model.specs.Contents.{Contents}
use Rattle.drt_model.specs.Limits.{IsTaskSet}
use Rattle.drt_claims.specs.Ranges.{AreInRangeReleases, IsEvidenceInRange}
use Rattle.drt_evidence.specs.LineForms.{kind_of}
use Rattle.drt_claims.specs.declared.evidence.Evidence.{Evidence}
use Rattle.drt_evidence.specs.declared.reading.line_forms.KindOfEvidence.{KindOfEvidence}
use Rattle.drt_evidence.specs.Text.{count_line, release_block, word_line}
use Rattle.drt_evidence.specs.declared.reading.text.Stop.{Stop}
use Rattle.drt_evidence.specs.declared.reading.text.Stop.TheVariants as stops

-- Bytes are whole lines, each with its LF.
pub record AreLines (bytes : List ℕ) : Type 0 where
  pub ls : List (List ℕ)
  pub no_feeds : AllByRecursion HasNoFeed ls
  pub are : bytes ≡ fed ls

-- The block of a value stands at the front of a text, with the rest behind it. No text begins with the blocks of two values.
pub record ReadsBlock {X : Type 0} (block : X → List ℕ) (Is : X → Type 0) (bytes : List ℕ) (x : X) (rest : List ℕ) : Type 0 where
  pub is : Is x
  pub stands : bytes ≡ block x ++ rest
  pub lines : AreLines (block x)
  pub only : (y : X) (s t : List ℕ) → Is y → block x ++ s ≡ block y ++ t → y ≡ x

-- The first line of a tail ends with LF, and no block goes on with it.
pub record RefusesLine {X : Type 0} (block : X → List ℕ) (Is : X → Type 0) (front tail : List ℕ) : Type 0 where
  pub line : List ℕ
  pub others : List ℕ
  pub cut : tail ≡ line ++ 10 ∷ others
  pub no_feed : HasNoFeed line
  pub refused : (x : X) (s t : List ℕ) → Is x → (front ++ (line ++ 10 ∷ [])) ++ s ≡ block x ++ t → ⊥

-- A text begins with no block: some block begins with the lines down to the last so many bytes, and the line there is missing, or no
-- block goes on with it.
pub record Stops {X : Type 0} (block : X → List ℕ) (Is : X → Type 0) (bytes : List ℕ) (left : ℕ) (missing : Bool) : Type 0 where
  pub front : List ℕ
  pub tail : List ℕ
  pub stands : bytes ≡ front ++ tail
  pub left_is : length tail ≡ left
  pub lines : AreLines front
  pub begins : ((x : X) (after : List ℕ) → Is x → block x ≡ front ++ after → ⊥) → ⊥
  pub none : (x : X) (t : List ℕ) → Is x → bytes ≡ block x ++ t → ⊥
  pub is_missing : missing ≡ true → HasNoFeed tail
  pub is_there : missing ≡ false → RefusesLine block Is front tail

-- Why a block isn't read: the text stops being one there, or memory ran out.
pub record IsStop {X : Type 0} (block : X → List ℕ) (Is : X → Type 0) (bytes : List ℕ) (stop : Stop) : Type 0 where
  pub at : (left : ℕ) (missing : Bool) → stop ≡ stops.Fault left missing → Stops block Is bytes left missing

-- Blocks one after another.
abbrev pub in_turn : {X : Type 0} → (X → List ℕ) → List X → List ℕ
in_turn block xs = flat_map block xs

-- So many values of a kind.
abbrev pub AreSoMany : {X : Type 0} → ℕ → (X → Type 0) → List X → Type 0
AreSoMany n Is xs = AllByRecursion Is xs × (length xs ≡ n)

-- Blocks one after another, below the line of their count.
abbrev pub count_and_blocks : {X : Type 0} → List ℕ → (X → List ℕ) → List X → List ℕ
count_and_blocks word block xs = written_line (count_line word (length xs)) ++ flat_map block xs

-- The first line of a dossier.
abbrev pub first_block : Unit {0} → List ℕ
first_block u = written_line (codes "drt-dossier" ∷ codes "1" ∷ [])

-- The last line of a dossier.
abbrev pub close_block : Unit {0} → List ℕ
close_block u = written_line (word_line (codes "close"))

-- Evidence of a kind, with its numbers in range.
abbrev pub IsOfKind : KindOfEvidence → Evidence → Type 0
IsOfKind kind evidence = IsEvidenceInRange evidence × (kind_of evidence ≡ kind)

-- A set keeps the limits of its version.
abbrev pub IsSet : Contents → Type 0
IsSet set = IsTaskSet set.version set.tasks

-- A text has so many bytes from a line on, which is counted from 1.
pub record IsBehind (bytes : List ℕ) (line left : ℕ) : Type 0 where
  pub ls : List (List ℕ)
  pub tail : List ℕ
  pub no_feeds : AllByRecursion HasNoFeed ls
  pub stands : bytes ≡ fed ls ++ tail
  pub left_is : length tail ≡ left
  pub line_is : length ls + 1 ≡ line

-- Releases, and the miss of one of their jobs.
abbrev pub NamedMiss : Type 0
NamedMiss = List Release × Miss

-- The block of releases and a miss.
abbrev pub named_block : NamedMiss → List ℕ
named_block p = written (release_block p.0 p.1)

-- Releases and a miss have their numbers in range.
abbrev pub AreNamed : NamedMiss → Type 0
AreNamed p = AreInRangeReleases p.0 p.1
