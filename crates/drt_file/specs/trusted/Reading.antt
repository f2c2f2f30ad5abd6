-- Which texts read as which sets, and the fault of every other.
use Rattle.std.specs.Prelude.{◌≡◌, ℕ, ◌==◌, if◌then◌else◌, List, [], ◌∷◌, ◌++◌, Option, Some, None, slice_get, codes, decimal}
use Rattle.std.specs.Net.Grammar.{IsNumber}
use Rattle.drt_model.specs.declared.tasks.Vertex.{Vertex}
use Rattle.drt_model.specs.declared.tasks.Edge.{Edge}
use Rattle.drt_model.specs.declared.tasks.Task.{Task}
use Rattle.drt_model.specs.Contents.{Contents}
use Rattle.drt_model.specs.Limits.{IsTaskSet}
use Rattle.drt_file.specs.declared.fault.FileError.{FileError}
use Rattle.drt_file.specs.declared.fault.FileError.TheVariants as errors
use Rattle.drt_file.specs.trusted.Faults.{fault_of}
use Rattle.drt_file.specs.trusted.Line.{said}

-- The lines of a task below its `task` line say these vertices and these edges, each in this order, and this priority or none: line by
-- line, the last one last. An edge names vertices that stand above it, and no line follows another with a second priority. A number is
-- one or more decimal digits; leading zeros are allowed.
pub data Says : List (List (List ℕ)) → List Vertex → List Edge → Option ℕ → Type 0 where
  nothing : Says [] [] [] None
  vertex : (body : List (List (List ℕ))) (vs : List Vertex) (es : List Edge) (p : Option ℕ) (v : Vertex) (wcet deadline : List ℕ) → Says body vs es p → IsNumber 10 wcet v.wcet
      → IsNumber 10 deadline v.deadline → Says (body ++ (codes "vertex" ∷ v.name ∷ wcet ∷ deadline ∷ []) ∷ []) (vs ++ v ∷ []) es p
  edge : (body : List (List (List ℕ))) (vs : List Vertex) (es : List Edge) (p : Option ℕ) (e : Edge) (from to : Vertex) (sep : List ℕ) → Says body vs es p → slice_get vs e.from ≡ Some from
      → slice_get vs e.to ≡ Some to → IsNumber 10 sep e.sep → Says (body ++ (codes "edge" ∷ from.name ∷ to.name ∷ sep ∷ []) ∷ []) vs (es ++ e ∷ []) p
  priority : (body : List (List (List ℕ))) (vs : List Vertex) (es : List Edge) (number : List ℕ) (n : ℕ) → Says body vs es None → IsNumber 10 number n
      → Says (body ++ (codes "priority" ∷ number ∷ []) ∷ []) vs es (Some n)

-- Lines say a task: `task NAME`, and below it its vertices, its edges and in version 2 its priority.
abbrev pub SaysTask : ℕ → List (List (List ℕ)) → Task → Type 0
SaysTask version own t = (body : List (List (List ℕ))) × (own ≡ (codes "task" ∷ t.name ∷ []) ∷ body) × Says body t.vertices t.edges (if version == 2 then Some t.priority else None)

-- Lines say tasks: those of each follow those of the tasks before it.
pub data SaysTasks (version : ℕ) : List (List (List ℕ)) → List Task → Type 0 where
  no_task : SaysTasks version [] []
  next_task : (ls : List (List (List ℕ))) (ts : List Task) (own : List (List (List ℕ))) (t : Task) → SaysTasks version ls ts → SaysTask version own t → SaysTasks version (ls ++ own) (ts ++ t ∷ [])

-- A text reads as a set that keeps the limits of its version where the fields of its lines that aren't skipped are, line by line, those
-- of `drt 1` or `drt 2`, of the tasks in order, and of `end`.
pub record Reads (bytes : List ℕ) (set : Contents) : Type 0 where
  pub limits : IsTaskSet set.version set.tasks
  pub task_lines : List (List (List ℕ))
  pub spelled : said bytes ≡ (codes "drt" ∷ decimal set.version ∷ []) ∷ (task_lines ++ (codes "end" ∷ []) ∷ [])
  pub tasks : SaysTasks set.version task_lines set.tasks

-- A text has this fault: it is the one that the tables of codes give (Faults.antt), and the text reads as no set.
pub record HasFault (bytes : List ℕ) (line code : ℕ) : Type 0 where
  pub first : fault_of bytes ≡ Some (line, code)
  pub reads_as_none : (set : Contents) → ¬ Reads bytes set

-- Why a text isn't read: it has that fault, or memory ran out.
abbrev pub IsCauseOf : List ℕ → FileError → Type 0
IsCauseOf bytes (errors.Fault f) = HasFault bytes f.line f.code
IsCauseOf bytes errors.Memory = Unit {0}
