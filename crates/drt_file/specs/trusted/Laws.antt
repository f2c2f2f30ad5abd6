-- What holds of texts and sets.
use Rattle.std.specs.Prelude.{◌≡◌, ◌↔◌, ◌++◌, ℕ, List, None}
use Rattle.drt_model.specs.Contents.{Contents}
use Rattle.drt_model.specs.Limits.{IsTaskSet}
use Rattle.drt_file.specs.trusted.Cutting.{lines_of_fields}
use Rattle.drt_file.specs.trusted.Canonical.{canonical, set_lines}
use Rattle.drt_file.specs.trusted.Faults.{fault_of}
use Rattle.drt_file.specs.trusted.Reading.{Reads}

-- The canonical text of a set is cut into the lines and fields that it was made of.
abbrev pub TextsAreCutAsMade : Type 0
TextsAreCutAsMade = (set : Contents) → IsTaskSet set.version set.tasks → lines_of_fields (canonical set) ≡ set_lines set

-- Two sets with one canonical text are one set.
abbrev pub TextsTellSets : Type 0
TextsTellSets =
    (first second : Contents) → IsTaskSet first.version first.tasks → IsTaskSet second.version second.tasks
    → canonical first ≡ canonical second → first ≡ second

-- A text has no fault exactly where it reads as some set.
abbrev pub FaultlessTextsRead : Type 0
FaultlessTextsRead = (bytes : List ℕ) → fault_of bytes ≡ None ↔ ((set : Contents) × Reads bytes set)

-- A text reads as one set at most.
abbrev pub TextsReadAsOneSet : Type 0
TextsReadAsOneSet = (bytes : List ℕ) (first second : Contents) → Reads bytes first → Reads bytes second → first ≡ second

-- The canonical text of a set reads as that set, and as no other.
abbrev pub CanonicalTextsRead : Type 0
CanonicalTextsRead =
    (set : Contents) → IsTaskSet set.version set.tasks → Reads (canonical set) set × ((other : Contents) → Reads (canonical set) other → other ≡ set)

-- No text begins with the canonical texts of two sets.
abbrev pub FrontsTellSets : Type 0
FrontsTellSets =
    (first second : Contents) (s t : List ℕ) → IsTaskSet first.version first.tasks → IsTaskSet second.version second.tasks
    → canonical first ++ s ≡ canonical second ++ t → second ≡ first
