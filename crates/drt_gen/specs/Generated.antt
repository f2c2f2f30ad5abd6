-- The generated set of a number. Each field is a formula of the draw that it takes: task i takes 61 draws from draw 61·i on, the first for its
-- period, two for each of its 12 vertices and three for the edges out of each.
use Rattle.std.specs.Prelude.{ℕ, ◌+◌, ◌-◌, ◌*◌, ◌/◌, ◌%◌, ◌==◌, if◌then◌else◌, List, [], ◌∷◌, map, decimal, slice_index}
use Rattle.std.specs.List.{range_with_len, flat_map}
use Rattle.drt_model.specs.Contents.{Contents}
use Rattle.drt_model.specs.declared.tasks.Vertex.{Vertex}
use Rattle.drt_model.specs.declared.tasks.Edge.{Edge}
use Rattle.drt_model.specs.declared.tasks.Task.{Task}
use Rattle.drt_gen.specs.Draws.{draw}

-- The periods among which each task draws its own.
abbrev pub periods : List ℕ
periods = 100 ∷ 120 ∷ 150 ∷ 200 ∷ 240 ∷ 300 ∷ 400 ∷ 600 ∷ []

-- The period that draw k gives.
unfoldable pub drawn_period : ℕ → ℕ → ℕ
drawn_period number k = slice_index periods (draw number k 8)

-- The name `v` and a number.
abbrev pub vertex_name : ℕ → List ℕ
vertex_name j = 118 ∷ decimal j

-- The name `t` and a number.
abbrev pub task_name : ℕ → List ℕ
task_name i = 116 ∷ decimal i

-- Vertex j of a task with this period, by the draws k and k + 1.
unfoldable pub drawn_vertex : ℕ → ℕ → ℕ → ℕ → Vertex
drawn_vertex period number k j = record {
  name = vertex_name j;
  wcet = 1 + draw number k (period / 15);
  deadline = period - draw number (k + 1) (period / 2);
}

-- The separation that draw k gives: the period or twice the period.
abbrev pub drawn_sep : ℕ → ℕ → ℕ → ℕ
drawn_sep period number k = period * (1 + draw number k 2)

-- The vertex behind vertex j on the ring through all 12.
abbrev pub next_on_ring : ℕ → ℕ
next_on_ring j = (j + 1) % 12

-- The edge out of vertex j on the ring, by draw k.
abbrev pub ring_edge : ℕ → ℕ → ℕ → ℕ → Edge
ring_edge period number k j = record { from = j; to = next_on_ring j; sep = drawn_sep period number k }

-- The edge out of vertex j to a drawn vertex, by the draws k and k + 1.
abbrev pub chord : ℕ → ℕ → ℕ → ℕ → Edge
chord period number k j = record { from = j; to = draw number k 12; sep = drawn_sep period number (k + 1) }

-- The edges out of vertex j, by the draws k to k + 2: one on the ring, and one to a drawn vertex where that isn't the next on the ring.
unfoldable pub drawn_edges : ℕ → ℕ → ℕ → ℕ → List Edge
drawn_edges period number k j =
    if draw number (k + 1) 12 == next_on_ring j
    then ring_edge period number k j ∷ []
    else ring_edge period number k j ∷ chord period number (k + 1) j ∷ []

-- The vertices of a task with this period, by the draws from draw k on.
abbrev pub drawn_vertices : ℕ → ℕ → ℕ → List Vertex
drawn_vertices period number k = map (λ j. drawn_vertex period number (k + 2 * j) j) (range_with_len 0 12)

-- The edges of a task with this period, by the draws from draw k on.
abbrev pub all_drawn_edges : ℕ → ℕ → ℕ → List Edge
all_drawn_edges period number k = flat_map (λ j. drawn_edges period number (k + 3 * j) j) (range_with_len 0 12)

-- Task i, by the draws from draw k on.
unfoldable pub drawn_task : ℕ → ℕ → ℕ → Task
drawn_task number k i = record {
  name = task_name i;
  priority = i + 1;
  vertices = drawn_vertices (drawn_period number k) number (k + 1);
  edges = all_drawn_edges (drawn_period number k) number (k + 25);
}

-- The generated set of a number: 12 tasks of 12 vertices.
unfoldable pub generated : ℕ → Contents
generated number = record { version = 1; tasks = map (λ i. drawn_task number (61 * i) i) (range_with_len 0 12) }
