-- Which files are accepted, and the fault of each other.
use Rattle.std.specs.Prelude.{◌≡◌, ℕ, ◌≤◌, ◌<◌, ◌⊎◌, List, length}
use Rattle.drt_model.specs.Contents.{Contents}
use Rattle.drt_model.specs.Constrained.{AreConstrained}
use Rattle.drt_file.specs.trusted.Reading.{Reads, HasFault}
use Rattle.drt_graph.specs.Past.{IsFirstPast}
use Rattle.drt_command_files.specs.Edges.{Describes}
use Rattle.drt_command.specs.declared.input.Input.{Input}
use Rattle.drt_command.specs.declared.input.Input.TheVariants.{AtMost}
use Rattle.drt_outcome.specs.declared.fault.Fault.{Fault}
use Rattle.drt_outcome.specs.declared.fault.PastEdge.{PastEdge}
use Rattle.drt_outcome.specs.declared.fault.Fault.TheVariants.{Nothing, File, Edge, Limit, Probe, Rule, Dossier}

-- A task file has at most so many bytes.
abbrev pub most_bytes : ℕ
most_bytes = 1048576

-- A file is accepted as a set where it isn't too long, reads as that set, and the set's deadlines are constrained.
pub record IsAccepted (bytes : List ℕ) (set : Contents) : Type 0 where
  pub small : length bytes ≤ most_bytes
  pub reads : Reads bytes set
  pub constrained : AreConstrained set.tasks

-- A file that isn't too long reads as a set of which this edge of this task is the first whose separation is below the deadline of its source,
-- with these names and numbers.
pub record IsPastIn (bytes : List ℕ) (task edge : ℕ) (past : PastEdge) : Type 0 where
  pub small : length bytes ≤ most_bytes
  pub set : Contents
  pub reads : Reads bytes set
  pub first : IsFirstPast set.tasks task edge
  pub describes : Describes set.tasks task edge past

-- A file has this fault: code 23 at line 0 where it is too long, else the fault of its text, else the first edge whose separation is below the deadline of its source.
abbrev pub IsFileFault : List ℕ → Fault → Type 0
IsFileFault bytes Nothing = ⊥
IsFileFault bytes (File line code) = ((most_bytes < length bytes) × (line ≡ 0) × (code ≡ 23)) ⊎ ((length bytes ≤ most_bytes) × HasFault bytes line code)
IsFileFault bytes (Edge task edge past) = IsPastIn bytes task edge past
IsFileFault bytes (Limit code) = ⊥
IsFileFault bytes (Probe add code) = ⊥
IsFileFault bytes (Rule number) = ⊥
IsFileFault bytes (Dossier line code) = ⊥

-- A command that reads a task file takes at most so many bytes, else the fault 23.
abbrev pub file_input : Input
file_input = AtMost most_bytes (File 0 23)
