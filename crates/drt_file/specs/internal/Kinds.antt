-- What the first field of a line says that it is, as the program's own enum.
use Rattle.std.specs.Prelude.{ℕ, ◌&&◌, ◌==◌, if◌then◌else◌, List, [], ◌∷◌, bytes_eq}
use Rattle.drt_file.specs.declared.state.Kind.{Kind}
use Rattle.drt_file.specs.declared.state.Kind.TheVariants.{Task, Vertex, Edge, Priority, End, Other}
use Rattle.drt_file.specs.trusted.Words.{task_word, vertex_word, edge_word, priority_word, end_word}

-- The first field, and no byte where there is none.
abbrev pub first_word : List (List ℕ) → List ℕ
first_word [] = []
first_word (word ∷ words) = word

-- What the first field of a line says that it is. Only version 2 has priorities.
unfoldable pub kind : ℕ → List ℕ → Kind
kind version word =
    if bytes_eq word task_word then Task
    else if bytes_eq word vertex_word then Vertex
    else if bytes_eq word edge_word then Edge
    else if bytes_eq word priority_word && version == 2 then Priority
    else if bytes_eq word end_word then End
    else Other
