-- The fault of one line, as the reader finds it from the state that the lines above leave.
use Rattle.std.specs.Prelude.{ℕ, ◌+◌, Bool, true, false, not, ◌&&◌, ◌||◌, ◌==◌, nat_le, if◌then◌else◌, List, [], ◌∷◌, length, Option, Some, None, bytes_eq}
use Rattle.std.specs.List.{list_any, list_all, position_or_len}
use Rattle.drt_model.specs.declared.tasks.Vertex.{Vertex}
use Rattle.drt_model.specs.declared.tasks.Edge.{Edge}
use Rattle.drt_model.specs.Limits.{most_tasks, most_vertices}
use Rattle.drt_file.specs.declared.state.Draft.{Draft}
use Rattle.drt_file.specs.declared.state.State.{State}
use Rattle.drt_file.specs.declared.state.Kind.{Kind}
use Rattle.drt_file.specs.declared.state.Kind.TheVariants as kinds
use Rattle.drt_file.specs.trusted.Words.{is_name, is_number, value}
use Rattle.drt_file.specs.internal.Kinds.{kind, first_word}
use Rattle.drt_file.specs.trusted.Line.{is_text, is_in_range}

-- In a table of codes and tests, the code of the first test that holds.
unfoldable pub first_of : List (ℕ × Bool) → Option ℕ
first_of [] = None
first_of (t ∷ ts) = if t.1 then Some t.0 else first_of ts

-- A vertex of that name stands among these.
abbrev pub has_vertex : List ℕ → List Vertex → Bool
has_vertex name vs = list_any (λ v. bytes_eq v.name name) vs

-- How many vertices stand before the one of that name.
unfoldable pub place_of_name : List ℕ → List Vertex → ℕ
place_of_name name vs = position_or_len (λ v. bytes_eq v.name name) vs

-- An edge with these two ends stands among these.
unfoldable pub has_edge : ℕ → ℕ → List Edge → Bool
has_edge from to es = list_any (λ e. e.from == from && e.to == to) es

-- The line stands in a task of which the test holds.
unfoldable pub in_task : (Draft → Bool) → State → Bool
in_task test s = elim s.current [ None ↦ false | Some d ↦ test d ]

-- The line stands above the first task.
unfoldable pub is_outside : State → Bool
is_outside s = elim s.current [ None ↦ true | Some d ↦ false ]

-- The test holds of a task above, or of the one that the line stands in.
unfoldable pub in_some_task : (Draft → Bool) → State → Bool
in_some_task test s = list_any test s.closed || in_task test s

-- How many `task` lines stand above.
unfoldable pub task_count : State → ℕ
task_count s = length s.closed + (if is_outside s then 0 else 1)

-- A `priority` line stands in the task.
unfoldable pub has_priority : Draft → Bool
has_priority d = elim d.priority [ None ↦ false | Some n ↦ true ]

-- That priority stands in the task.
unfoldable pub has_that_priority : ℕ → Draft → Bool
has_that_priority n d = elim d.priority [ None ↦ false | Some m ↦ m == n ]

-- The fault of a line `task NAME`.
unfoldable pub task_fault : State → List (List ℕ) → Option ℕ
task_fault s (word ∷ name ∷ []) = first_of (
    (7, not (is_name name))
    ∷ (8, in_some_task (λ d. bytes_eq d.name name) s)
    ∷ (13, nat_le (most_tasks s.version) (task_count s))
    ∷ [])
task_fault s words = Some 4

-- The fault of a line `vertex NAME WCET DEADLINE`.
unfoldable pub vertex_fault : State → List (List ℕ) → Option ℕ
vertex_fault s (word ∷ name ∷ wcet ∷ deadline ∷ []) = first_of (
    (5, not (is_number wcet && is_number deadline))
    ∷ (6, not (is_in_range wcet && is_in_range deadline))
    ∷ (7, not (is_name name))
    ∷ (9, in_task (λ d. has_vertex name d.vertices) s)
    ∷ (12, is_outside s)
    ∷ (14, in_task (λ d. nat_le (most_vertices s.version) (length d.vertices)) s)
    ∷ [])
vertex_fault s words = Some 4

-- The fault of a line `edge FROM TO SEPARATION`.
unfoldable pub edge_fault : State → List (List ℕ) → Option ℕ
edge_fault s (word ∷ from ∷ to ∷ sep ∷ []) = first_of (
    (5, not (is_number sep))
    ∷ (6, not (is_in_range sep))
    ∷ (7, not (is_name from && is_name to))
    ∷ (10, in_task (λ d. not (has_vertex from d.vertices && has_vertex to d.vertices)) s)
    ∷ (11, in_task (λ d. has_edge (place_of_name from d.vertices) (place_of_name to d.vertices) d.edges) s)
    ∷ (12, is_outside s)
    ∷ (15, in_task (λ d. nat_le 256 (length d.edges)) s)
    ∷ [])
edge_fault s words = Some 4

-- The fault of a line `priority N`.
unfoldable pub priority_fault : State → List (List ℕ) → Option ℕ
priority_fault s (word ∷ number ∷ []) = first_of (
    (5, not (is_number number))
    ∷ (6, not (is_in_range number))
    ∷ (12, is_outside s)
    ∷ (24, in_task has_priority s)
    ∷ (25, not (is_outside s) && list_any (has_that_priority (value number)) s.closed)
    ∷ [])
priority_fault s words = Some 4

-- The fault of a line `end`.
unfoldable pub end_fault : List (List ℕ) → Option ℕ
end_fault (word ∷ []) = None
end_fault words = Some 4

-- The fault of a line of each kind.
unfoldable pub kind_fault : Kind → State → List (List ℕ) → Option ℕ
kind_fault kinds.Task s words = task_fault s words
kind_fault kinds.Vertex s words = vertex_fault s words
kind_fault kinds.Edge s words = edge_fault s words
kind_fault kinds.Priority s words = priority_fault s words
kind_fault kinds.End s words = end_fault words
kind_fault kinds.Other s words = Some 3

-- The fault of a line that isn't skipped and isn't the first such, from its bytes and its fields. After `end` only 2 and 19 are tried.
unfoldable pub line_fault : State → List ℕ → List (List ℕ) → Option ℕ
line_fault s line words =
    if not (list_all is_text line) then Some 2
    else if s.ended then Some 19
    else kind_fault (kind s.version (first_word words)) s words
