-- The one text that a task set is printed as.
use Rattle.std.specs.Prelude.{ℕ, ◌==◌, if◌then◌else◌, List, [], ◌∷◌, ◌++◌, map, unwrap_or, option_map, slice_get, decimal, codes}
use Rattle.std.specs.List.{flat_map, join_with_byte}
use Rattle.drt_model.specs.declared.tasks.Vertex.{Vertex}
use Rattle.drt_model.specs.declared.tasks.Edge.{Edge}
use Rattle.drt_model.specs.declared.tasks.Task.{Task}
use Rattle.drt_model.specs.Contents.{Contents}

-- A line of fields as bytes: its fields, parted by one space, and a LF.
unfoldable pub written_line : List (List ℕ) → List ℕ
written_line words = join_with_byte 32 words ++ 10 ∷ []

-- Lines of fields as bytes, one line after the other.
abbrev pub written : List (List (List ℕ)) → List ℕ
written ls = flat_map written_line ls

-- The name of the vertex at a place, and no byte where none is there.
unfoldable pub name_at : List Vertex → ℕ → List ℕ
name_at vertices i = unwrap_or (option_map (λ v. v.name) (slice_get vertices i)) []

-- The first line of a text: `drt VERSION`.
abbrev pub version_line : ℕ → List (List ℕ)
version_line version = codes "drt" ∷ decimal version ∷ []

-- The first line of a task: `task NAME`.
abbrev pub task_line : Task → List (List ℕ)
task_line t = codes "task" ∷ t.name ∷ []

-- The line of a task's priority, `priority N`, which only version 2 has.
unfoldable pub priority_lines : ℕ → Task → List (List (List ℕ))
priority_lines version t = if version == 2 then (codes "priority" ∷ decimal t.priority ∷ []) ∷ [] else []

-- The line of a vertex: `vertex NAME WCET DEADLINE`.
abbrev pub vertex_line : Vertex → List (List ℕ)
vertex_line v = codes "vertex" ∷ v.name ∷ decimal v.wcet ∷ decimal v.deadline ∷ []

-- The line of an edge between two of these vertices: `edge FROM TO SEPARATION`, the ends by their names.
abbrev pub edge_line : List Vertex → Edge → List (List ℕ)
edge_line vertices e = codes "edge" ∷ name_at vertices e.from ∷ name_at vertices e.to ∷ decimal e.sep ∷ []

-- The lines of a task's vertices and edges, each in their order.
unfoldable pub lines_of_body : Task → List (List (List ℕ))
lines_of_body t = map vertex_line t.vertices ++ map (edge_line t.vertices) t.edges

-- The lines of a task: its name, in version 2 its priority, its vertices and its edges.
unfoldable pub task_lines : ℕ → Task → List (List (List ℕ))
task_lines version t = task_line t ∷ (priority_lines version t ++ lines_of_body t)

-- The last line of a text: `end`.
abbrev pub end_line : List (List ℕ)
end_line = codes "end" ∷ []

-- The lines of a set: its version, its tasks in their order, and the end.
unfoldable pub set_lines : Contents → List (List (List ℕ))
set_lines set = version_line set.version ∷ (flat_map (task_lines set.version) set.tasks ++ end_line ∷ [])

-- The canonical text of a set of either version.
unfoldable pub canonical : Contents → List ℕ
canonical set = written (set_lines set)
