-- Which texts read as which classic sets, and the fault of every other.
use Rattle.std.specs.Prelude.{◌≡◌, ℕ, List, [], ◌∷◌, ◌++◌, map, Some, codes}
use Rattle.std.specs.List.{AllZip, flat_map}
use Rattle.drt_file.specs.trusted.Line.{said}
use Rattle.std.specs.Net.Grammar.{IsNumber}
use Rattle.drt_classic.specs.declared.classic.Frame.{Frame}
use Rattle.drt_classic.specs.declared.classic.Classic.{Classic}
use Rattle.drt_classic.specs.declared.classic.Classic.TheVariants.{Sporadic, Multiframe, Cyclic, Free}
use Rattle.drt_classic.specs.declared.state.Line.{Line}
use Rattle.drt_classic.specs.declared.state.Line.TheVariants as saying
use Rattle.drt_classic.specs.declared.fault.ClassicError.{ClassicError}
use Rattle.drt_classic.specs.declared.fault.ClassicError.TheVariants as errors
use Rattle.drt_classic.specs.ClassicLimits.{IsClassicSet}
use Rattle.drt_classic.specs.ClassicWords.{head_line}
use Rattle.drt_classic.specs.ClassicFaults.{classic_fault_of}

-- The lines of a task: its own line, and for a `gmf` or `noncyclic`, whose own line says no frame, a line for each frame.
abbrev pub lines_of_classic : Classic → List Line
lines_of_classic (Sporadic name frame) = saying.Task (Sporadic name frame) ∷ []
lines_of_classic (Multiframe name deadline period wcets) = saying.Task (Multiframe name deadline period wcets) ∷ []
lines_of_classic (Cyclic name frames) = saying.Task (Cyclic name []) ∷ map saying.Frame frames
lines_of_classic (Free name frames) = saying.Task (Free name []) ∷ map saying.Frame frames

-- The lines of tasks, in order, and `end`.
abbrev pub lines_of : List Classic → List Line
lines_of tasks = flat_map lines_of_classic tasks ++ saying.End ∷ []

-- Three fields mean the times of a frame.
abbrev pub MeanFrame : List ℕ → List ℕ → List ℕ → Frame → Type 0
MeanFrame wcet deadline sep f = IsNumber 10 wcet f.wcet × IsNumber 10 deadline f.deadline × IsNumber 10 sep f.sep

-- A line is `sporadic NAME WCET DEADLINE PERIOD`.
pub record SaysSporadic (words : List (List ℕ)) (name : List ℕ) (f : Frame) : Type 0 where
  pub wcet : List ℕ
  pub deadline : List ℕ
  pub period : List ℕ
  pub spelled : words ≡ codes "sporadic" ∷ name ∷ wcet ∷ deadline ∷ period ∷ []
  pub times : MeanFrame wcet deadline period f

-- A line is `multiframe NAME DEADLINE PERIOD WCET1 .. WCETK`.
pub record SaysMultiframe (words : List (List ℕ)) (name : List ℕ) (deadline period : ℕ) (wcets : List ℕ) : Type 0 where
  pub first : List ℕ
  pub second : List ℕ
  pub others : List (List ℕ)
  pub spelled : words ≡ codes "multiframe" ∷ name ∷ first ∷ second ∷ others
  pub deadline_is : IsNumber 10 first deadline
  pub period_is : IsNumber 10 second period
  pub wcets_are : AllZip (IsNumber 10) others wcets

-- A line is `frame WCET DEADLINE SEPARATION`.
pub record SaysFrame (words : List (List ℕ)) (f : Frame) : Type 0 where
  pub wcet : List ℕ
  pub deadline : List ℕ
  pub sep : List ℕ
  pub spelled : words ≡ codes "frame" ∷ wcet ∷ deadline ∷ sep ∷ []
  pub times : MeanFrame wcet deadline sep f

-- The fields of a line are this line: a task of each kind, a frame, or `end`.
abbrev pub SaysClassic : List (List ℕ) → Line → Type 0
SaysClassic words (saying.Task (Sporadic name frame)) = SaysSporadic words name frame
SaysClassic words (saying.Task (Multiframe name deadline period wcets)) = SaysMultiframe words name deadline period wcets
SaysClassic words (saying.Task (Cyclic name frames)) = (words ≡ codes "gmf" ∷ name ∷ []) × (frames ≡ [])
SaysClassic words (saying.Task (Free name frames)) = (words ≡ codes "noncyclic" ∷ name ∷ []) × (frames ≡ [])
SaysClassic words (saying.Frame f) = SaysFrame words f
SaysClassic words saying.End = words ≡ codes "end" ∷ []

-- A text reads as a set that keeps the limits where the fields of its lines that aren't skipped are `drt-classic 1` and, line by line,
-- the lines of the set's tasks and `end`.
pub record ReadsClassic (bytes : List ℕ) (tasks : List Classic) : Type 0 where
  pub limits : IsClassicSet tasks
  pub below : List (List (List ℕ))
  pub spelled : said bytes ≡ head_line ∷ below
  pub lines : AllZip SaysClassic below (lines_of tasks)

-- A text has this fault: it is the one that the tables of codes give (ClassicFaults.antt), and the text reads as no set.
pub record HasClassicFault (bytes : List ℕ) (line code : ℕ) : Type 0 where
  pub first : classic_fault_of bytes ≡ Some (line, code)
  pub reads_as_none : (tasks : List Classic) → ¬ ReadsClassic bytes tasks

-- Why a text isn't read: it has that fault, or memory ran out.
abbrev pub IsClassicCauseOf : List ℕ → ClassicError → Type 0
IsClassicCauseOf bytes (errors.Fault f) = HasClassicFault bytes f.line f.code
IsClassicCauseOf bytes errors.Memory = Unit {0}
