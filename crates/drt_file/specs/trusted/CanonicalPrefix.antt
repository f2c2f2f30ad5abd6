-- The canonical text at the front of a file, and where a file stops being a prefix of one.
use Rattle.std.specs.Prelude.{◌≡◌, ℕ, ◌+◌, ◌-◌, ◌<◌, ◌≤◌, ◌⊎◌, ◌↔◌, ◌==◌, Bool, if◌then◌else◌, List, [], ◌∷◌, ◌++◌, length, take, IsTrue, Result, Ok, Err}
use Rattle.drt_model.specs.Contents.{Contents}
use Rattle.drt_model.specs.Limits.{IsTaskSet}
use Rattle.drt_file.specs.declared.front.Canonical.{Canonical}
use Rattle.drt_file.specs.declared.front.CanonicalError.{CanonicalError}
use Rattle.drt_file.specs.declared.front.CanonicalError.TheVariants as errors
use Rattle.drt_file.specs.trusted.Canonical.{canonical}

-- Bytes are a prefix of a canonical text where they and some bytes behind them are the canonical text of a set.
abbrev pub IsCanonicalPrefix : List ℕ → Type 0
IsCanonicalPrefix bytes = (set : Contents) × (rest : List ℕ) × IsTaskSet set.version set.tasks × (bytes ++ rest ≡ canonical set)

-- How many lines of a text end with LF.
unfoldable pub line_count : List ℕ → ℕ
line_count [] = 0
line_count (b ∷ bs) = (if b == 10 then 1 else 0) + line_count bs

-- The first n lines of a text, each with its LF; the whole text where it has fewer.
unfoldable pub first_lines : ℕ → List ℕ → List ℕ
first_lines n [] = []
first_lines n (b ∷ bs) = if n == 0 then [] else b ∷ first_lines (if b == 10 then n - 1 else n) bs

-- The first n lines, each with its LF, are a prefix of no canonical text, or the text has fewer than n lines that end with LF.
abbrev pub Breaks : List ℕ → ℕ → Type 0
Breaks bytes n = (line_count bytes < n) ⊎ (¬ IsCanonicalPrefix (first_lines n bytes))

-- A text stops being canonical at the least n where it breaks. That line is missing exactly where the text has fewer lines that end with LF.
pub record HasCanonicalFault (bytes : List ℕ) (line : ℕ) (missing : Bool) : Type 0 where
  pub here : Breaks bytes line
  pub least : (n : ℕ) → n < line → ¬ Breaks bytes n
  pub is_missing : IsTrue missing ↔ (line_count bytes < line)

-- The first so many bytes of a text are the canonical text of a set.
pub record BeginsWith (bytes : List ℕ) (set : Contents) (count : ℕ) : Type 0 where
  pub limits : IsTaskSet set.version set.tasks
  pub within : count ≤ length bytes
  pub front : take count bytes ≡ canonical set

-- Why there is no set: the text begins with no canonical text and stops being one at that line, or memory ran out.
abbrev pub IsCanonicalCause : List ℕ → CanonicalError → Type 0
IsCanonicalCause bytes (errors.Fault line missing) = ((set : Contents) (count : ℕ) → ¬ BeginsWith bytes set count) × HasCanonicalFault bytes line missing
IsCanonicalCause bytes errors.Memory = Unit {0}

-- A call gave this set and this length, unless memory ran out.
abbrev pub GivesFront : Result Canonical CanonicalError → Contents → ℕ → Type 0
GivesFront (Ok front) set count = (front.set ≡ set) × (front.length ≡ count)
GivesFront (Err e) set count = e ≡ errors.Memory
