-- What a line says by the reader's own values, and what it leaves.
use Rattle.std.specs.Prelude.{◌≡◌, ℕ, false, List, ◌∷◌, Option, Some, None, Result, Ok, Err, bytes_eq}
use Rattle.drt_file.specs.declared.state.State.{State}
use Rattle.drt_file.specs.declared.state.Kind.{Kind}
use Rattle.drt_file.specs.declared.state.Kind.TheVariants as kinds
use Rattle.drt_file.specs.declared.state.Line.{Line}
use Rattle.drt_file.specs.declared.state.Line.TheVariants as lines
use Rattle.drt_file.specs.declared.fault.FileFault.{FileFault}
use Rattle.drt_file.specs.internal.Kinds.{kind, first_word}
use Rattle.drt_file.specs.internal.Reader.{own_vertices, joined_draft}
use Rattle.drt_file.specs.internal.StateFaults.{has_vertex, in_some_task, is_outside, line_fault, place_of_name}
use Rattle.drt_file.specs.internal.Steps.{capped, narrow, after_task, after_end, on_current, with_vertex, with_priority}

-- The fault with this code at line n, or what the line says.
unfoldable pub read_as : {A : Type 0} → ℕ → Option ℕ → A → Result A FileFault
read_as n None x = Ok x
read_as n (Some code) x = Err (record { line = n; code = code })

-- What a line of each kind says, where it has no fault. An edge leads between the places of its names.
unfoldable pub said_by : Kind → State → List (List ℕ) → Line
said_by kinds.Task s (word ∷ name ∷ rest) = lines.Task name
said_by kinds.Vertex s (word ∷ name ∷ wcet ∷ deadline ∷ rest) = lines.Vertex (record { name = name; wcet = capped wcet; deadline = capped deadline })
said_by kinds.Edge s (word ∷ from ∷ to ∷ sep ∷ rest) = lines.Edge (record { from = narrow (place_of_name from (own_vertices s)); to = narrow (place_of_name to (own_vertices s)); sep = capped sep })
said_by kinds.Priority s (word ∷ number ∷ rest) = lines.Priority (capped number)
said_by k s words = lines.End

-- What line n says below a state, or its fault.
unfoldable pub parsed : ℕ → State → List ℕ → List (List ℕ) → Result Line FileFault
parsed n s line words = read_as n (line_fault s line words) (said_by (kind s.version (first_word words)) s words)

-- What line n leaves, where it says this.
unfoldable pub after_line : ℕ → State → Line → State
after_line n s (lines.Task name) = after_task n s name
after_line n s (lines.Vertex v) = on_current (with_vertex v) s
after_line n s (lines.Edge e) = on_current (joined_draft e) s
after_line n s (lines.Priority number) = on_current (with_priority number) s
after_line n s lines.End = after_end s

-- The name of a task is new, and a vertex stands in a task and its name is new there.
unfoldable pub IsNew : State → Line → Type 0
IsNew s (lines.Task name) = in_some_task (λ d. bytes_eq d.name name) s ≡ false
IsNew s (lines.Vertex v) = (is_outside s ≡ false) × (has_vertex v.name (own_vertices s) ≡ false)
IsNew s line = Unit {0}
