-- How many edges leave the vertices of a graph.
use Rattle.std.specs.Prelude.{ℕ, max, List, [], ◌∷◌, length}
use Rattle.drt_model.specs.declared.tasks.Edge.{Edge}

-- The greatest number of edges out of a vertex.
abbrev pub most_out : List (List Edge) → ℕ
most_out [] = 0
most_out (row ∷ rows) = max (length row) (most_out rows)
