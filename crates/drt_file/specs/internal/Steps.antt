-- Reading a text line by line, down to its first fault.
use Rattle.std.specs.Prelude.{◌≡◌, ℕ, ◌+◌, Bool, true, false, not, ◌==◌, if◌then◌else◌, List, [], ◌∷◌, ◌++◌, length, map, min, Option, Some, None, option_map, unwrap_or, Result, Ok, Err, bytes_eq}
use Rattle.drt_model.specs.declared.tasks.Vertex.{Vertex}
use Rattle.drt_model.specs.declared.tasks.Task.{Task}
use Rattle.drt_model.specs.Contents.{Contents}
use Rattle.drt_file.specs.declared.state.Draft.{Draft}
use Rattle.drt_file.specs.declared.state.State.{State}
use Rattle.drt_file.specs.declared.state.Kind.{Kind}
use Rattle.drt_file.specs.declared.state.Kind.TheVariants as kinds
use Rattle.drt_file.specs.declared.fault.FileFault.{FileFault}
use Rattle.drt_file.specs.declared.fault.FileError.{FileError}
use Rattle.drt_file.specs.declared.fault.FileError.TheVariants as errors
use Rattle.drt_file.specs.trusted.Cutting.{lines, fields}
use Rattle.drt_file.specs.trusted.Words.{drt_word, value}
use Rattle.drt_file.specs.internal.Kinds.{kind, first_word}
use Rattle.drt_file.specs.trusted.Line.{is_skipped}
use Rattle.drt_file.specs.internal.StateFaults.{place_of_name, line_fault, task_count}

-- The number that digits mean, or 1,000,001 where it is greater.
abbrev pub capped : List ℕ → ℕ
capped word = min (value word) 1000001

infixl 10 ◌>>=◌
-- What follows a step, where the step has no fault.
abbrev pub ◌>>=◌ : {A B Fault : Type 0} → Result A Fault → (A → Result B Fault) → Result B Fault
(Ok x) >>= f = f x
(Err e) >>= f = Err e

-- A call that gave an error gave the fault of this reading, unless memory ran out.
abbrev pub Fails : {Y : Type 0} → FileError → Result Y FileFault → Type 0
Fails errors.Memory read = Unit {0}
Fails (errors.Fault f) read = read ≡ Err f

-- A call gave what this reading gives, unless memory ran out.
abbrev pub Gives : {Y : Type 0} → Result Y FileError → Result Y FileFault → Type 0
Gives (Ok x) read = read ≡ Ok x
Gives (Err e) read = Fails e read

-- A call gave the version and the tasks of the set that this reading gives, unless memory ran out.
abbrev pub GivesSet : Result (ℕ × List Task) FileError → Result Contents FileFault → Type 0
GivesSet (Ok x) read = read ≡ Ok (record { version = x.0; tasks = x.1 })
GivesSet (Err e) read = Fails e read

-- The tasks that are done, and the one that is open, if any.
unfoldable pub with_last : List Draft → Option Draft → List Draft
with_last ds None = ds
with_last ds (Some d) = ds ++ d ∷ []

-- The tasks above and the one that the line stands in.
abbrev pub all_drafts : State → List Draft
all_drafts s = with_last s.closed s.current

-- A number as far as 32 bits go.
abbrev pub narrow : ℕ → ℕ
narrow n = min n 4294967295

-- In version 1 a task's priority is its number, counted from 1. In version 2 a line of the task says it.
unfoldable pub opening_priority : State → Option ℕ
opening_priority s = if s.version == 1 then Some (narrow (task_count s + 1)) else None

-- After a line `task NAME`, whose number is n.
unfoldable pub after_task : ℕ → State → List ℕ → State
after_task n s name = record
    { version = s.version; closed = all_drafts s; current = Some (record { name = name; line = n; priority = opening_priority s; vertices = []; edges = [] }); ended = s.ended }

-- The task with one vertex more.
unfoldable pub with_vertex : Vertex → Draft → Draft
with_vertex v d = record { name = d.name; line = d.line; priority = d.priority; vertices = d.vertices ++ v ∷ []; edges = d.edges }

-- The task with one edge more, whose ends are the places of these names.
unfoldable pub with_edge : List ℕ → List ℕ → ℕ → Draft → Draft
with_edge from to sep d = record {
  name = d.name;
  line = d.line;
  priority = d.priority;
  vertices = d.vertices;
  edges = d.edges ++ record
      { from = narrow (place_of_name from d.vertices); to = narrow (place_of_name to d.vertices); sep = sep } ∷ [];
}

-- The task with this priority.
unfoldable pub with_priority : ℕ → Draft → Draft
with_priority n d = record { name = d.name; line = d.line; priority = Some n; vertices = d.vertices; edges = d.edges }

-- The task that the line stands in is changed.
unfoldable pub on_current : (Draft → Draft) → State → State
on_current change s = record { version = s.version; closed = s.closed; current = option_map change s.current; ended = s.ended }

-- After a line `end`.
unfoldable pub after_end : State → State
after_end s = record { version = s.version; closed = s.closed; current = s.current; ended = true }

-- What a line of each kind leaves, where it has no fault.
unfoldable pub after_kind : Kind → ℕ → State → List (List ℕ) → State
after_kind kinds.Task n s (word ∷ name ∷ rest) = after_task n s name
after_kind kinds.Vertex n s (word ∷ name ∷ wcet ∷ deadline ∷ rest) = on_current (with_vertex (record { name = name; wcet = capped wcet; deadline = capped deadline })) s
after_kind kinds.Edge n s (word ∷ from ∷ to ∷ sep ∷ rest) = on_current (with_edge from to (capped sep)) s
after_kind kinds.Priority n s (word ∷ number ∷ rest) = on_current (with_priority (capped number)) s
after_kind kinds.End n s words = after_end s
after_kind k n s words = s

-- Nothing but the version is known.
unfoldable pub opening : ℕ → State
opening version = record { version = version; closed = []; current = None; ended = false }

-- What the first line that isn't skipped leaves: it is `drt 1` or `drt 2`.
unfoldable pub head : List (List ℕ) → Option State
head (word ∷ version ∷ []) =
    if bytes_eq word drt_word then
    (if bytes_eq version (49 ∷ []) then Some (opening 1) else if bytes_eq version (50 ∷ []) then Some (opening 2) else None)
    else None
head words = None

-- The fault with this code at this line, or what the line leaves.
unfoldable pub judged : ℕ → Option ℕ → State → Result (Option State) FileFault
judged n None after = Ok (Some after)
judged n (Some code) after = Err (record { line = n; code = code })

-- Fault 1 at this line, or what the line leaves.
unfoldable pub headed : ℕ → Option State → Result (Option State) FileFault
headed n None = Err (record { line = n; code = 1 })
headed n (Some s) = Ok (Some s)

-- A line that isn't skipped, below what the lines above leave, which is nothing above the first such.
unfoldable pub line_step : ℕ → Option State → List ℕ → List (List ℕ) → Result (Option State) FileFault
line_step n None line words = headed n (head words)
line_step n (Some s) line words = judged n (line_fault s line words) (after_kind (kind s.version (first_word words)) n s words)

-- Line n, below what the lines above leave.
unfoldable pub step : ℕ → Option State → List ℕ → Result (Option State) FileFault
step n above line = if is_skipped (fields line) then Ok above else line_step n above line (fields line)

-- Lines from number n on: the number behind the last, and what they leave.
unfoldable pub steps : ℕ → Option State → List (List ℕ) → Result (ℕ × Option State) FileFault
steps n above [] = Ok (n, above)
steps n above (line ∷ others) = step n above line >>= λ below. steps (n + 1) below others

-- The line of the first of these tasks of which the test holds.
unfoldable pub first_line : (Draft → Bool) → List Draft → Option ℕ
first_line test [] = None
first_line test (d ∷ ds) = if test d then Some d.line else first_line test ds

-- A task without a vertex.
unfoldable pub has_no_vertex : Draft → Bool
has_no_vertex d = length d.vertices == 0

-- A task without a priority, which only version 2 can have.
unfoldable pub has_no_priority : Draft → Bool
has_no_priority d = elim d.priority [ None ↦ true | Some n ↦ false ]

-- The fault with this code at that line, where there is one; else what follows.
unfoldable pub unless_at : {Y : Type 0} → ℕ → Option ℕ → Result Y FileFault → Result Y FileFault
unless_at code None next = next
unless_at code (Some line) next = Err (record { line = line; code = code })

-- The task that is read.
unfoldable pub task_of : Draft → Task
task_of d = record { name = d.name; priority = unwrap_or d.priority 0; vertices = d.vertices; edges = d.edges }

-- Behind the last line, whose number is n - 1: the codes 16, 17, 18 and 26 in this order, and else the tasks.
unfoldable pub closing : ℕ → List Draft → Bool → Result (List Draft) FileFault
closing n ds ended =
    if length ds == 0 then Err (record { line = n; code = 16 })
    else unless_at 17 (first_line has_no_vertex ds)
    (if not ended then Err (record { line = n; code = 18 })
    else unless_at 26 (first_line has_no_priority ds) (Ok ds))

-- The set that the lines say, or the fault of the text as a whole.
unfoldable pub finish : ℕ → Option State → Result Contents FileFault
finish n None = Err (record { line = n; code = 1 })
finish n (Some s) = closing n (all_drafts s) s.ended >>= λ ds. Ok (record { version = s.version; tasks = map task_of ds })

-- What a whole text reads as, or its fault.
unfoldable pub read_text : List ℕ → Result Contents FileFault
read_text text = steps 1 None (lines text) >>= λ x. finish x.0 x.1
