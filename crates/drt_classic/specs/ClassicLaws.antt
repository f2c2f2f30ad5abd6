-- What holds of classic texts, classic sets and their digraphs.
use Rattle.std.specs.Prelude.{◌≡◌, ◌↔◌, ℕ, List, None}
use Rattle.drt_model.specs.declared.jobs.Release.{Release}
use Rattle.drt_model.specs.Constrained.{AreConstrained}
use Rattle.drt_model.specs.Limits.{IsTaskSet}
use Rattle.drt_model.specs.Legal.{IsLegal}
use Rattle.drt_classic.specs.declared.classic.Classic.{Classic}
use Rattle.drt_classic.specs.ClassicLimits.{IsClassicSet}
use Rattle.drt_classic.specs.ClassicLegal.{IsClassicList}
use Rattle.drt_classic.specs.Digraphs.{digraphs_of}
use Rattle.drt_classic.specs.ClassicFaults.{classic_fault_of}
use Rattle.drt_classic.specs.ClassicReading.{ReadsClassic}

-- A list of releases is legal for the digraphs of a classic set exactly where it is a classic list of that set.
abbrev pub ReleasesAgree : Type 0
ReleasesAgree = (tasks : List Classic) (releases : List Release) → IsLegal (digraphs_of tasks).tasks releases ↔ IsClassicList tasks releases

-- The digraphs of a classic set keep the limits of version 1, and their deadlines are constrained.
abbrev pub DigraphsKeepLimits : Type 0
DigraphsKeepLimits = (tasks : List Classic) → IsClassicSet tasks → IsTaskSet 1 (digraphs_of tasks).tasks × AreConstrained (digraphs_of tasks).tasks

-- A text has no fault exactly where it reads as some classic set.
abbrev pub FaultlessClassicTextsRead : Type 0
FaultlessClassicTextsRead = (bytes : List ℕ) → classic_fault_of bytes ≡ None ↔ ((tasks : List Classic) × ReadsClassic bytes tasks)

-- A text reads as one classic set at most.
abbrev pub ClassicTextsReadAsOneSet : Type 0
ClassicTextsReadAsOneSet = (bytes : List ℕ) (first second : List Classic) → ReadsClassic bytes first → ReadsClassic bytes second → first ≡ second
