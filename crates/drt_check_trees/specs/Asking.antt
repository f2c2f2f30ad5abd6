-- What walks ask for, vertex by vertex.
use Rattle.std.specs.Prelude.{ℕ, ◌+◌, ◌*◌, ◌<◌, ◌≤◌, List, [], ◌∷◌, All, length, drop}
use Rattle.drt_model.specs.Numbers.{most_time}
use Rattle.drt_model.specs.Digraph.{Digraph, vertex_count}
use Rattle.drt_model.specs.Walk.{requested_from}
use Rattle.drt_check_trees.specs.declared.asking.Cursor.{Cursor}

-- The list has vertices of the graph, and at most 1,000,000.
pub record AreWalkVertices (g : Digraph) (walk : List ℕ) : Type 0 where
  pub each : All (λ v. v < vertex_count g) walk
  pub few : length walk ≤ most_time

-- What some vertices ask for before t where the first one is released at the offset.
abbrev pub asked_by_rest : Digraph → ℕ → List ℕ → ℕ → ℕ
asked_by_rest g offset [] t = 0
asked_by_rest g offset (u ∷ vs) t = requested_from g offset u vs t

-- What a walk asks for before t, by the work of the vertices before a cursor and what those from it on ask for.
abbrev pub asked_at : Digraph → List ℕ → Cursor → ℕ → ℕ
asked_at g walk c t = c.work + asked_by_rest g c.offset (drop c.place walk) t

-- The cursor stands in the walk, and its numbers are small.
pub record IsCursorPlaced (walk : List ℕ) (c : Cursor) : Type 0 where
  pub within : c.place ≤ length walk
  pub offset : c.offset ≤ most_time * c.place
  pub work : c.work ≤ most_time * c.place

-- At no time from 1 to the bound does the second walk ask for less than the first.
abbrev pub AsksNoLess : ℕ → Digraph → List ℕ → List ℕ → Type 0
AsksNoLess bound g other walk = (t : ℕ) → 1 ≤ t → t ≤ bound → asked_by_rest g 0 other t ≤ asked_by_rest g 0 walk t
