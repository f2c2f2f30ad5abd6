-- The graph of a task.
use Rattle.std.specs.Prelude.{◌≡◌, ◌≢◌, ℕ, ◌≤◌, ◌<◌, ◌==◌, List, [], length, map, filter, slice_index_or}
use Rattle.std.specs.List.{range_with_len}
use Rattle.drt_model.specs.declared.tasks.Vertex.{Vertex}
use Rattle.drt_model.specs.declared.tasks.Edge.{Edge}
use Rattle.drt_model.specs.declared.tasks.Task.{Task}
use Rattle.drt_model.specs.Limits.{IsTime}

-- A digraph has vertices and, for each of them in order, the edges out of it.
pub record Digraph : Type 0 where
  pub vertices : List Vertex
  pub out : List (List Edge)

-- The edges of a list that leave vertex v, in order.
abbrev pub edges_from : List Edge → ℕ → List Edge
edges_from edges v = filter (λ e. e.from == v) edges

-- The graph of a task: its vertices, and out of each the task's edges that leave it, in file order.
abbrev pub digraph_of : Task → Digraph
digraph_of t = record { vertices = t.vertices; out = map (edges_from t.edges) (range_with_len 0 (length t.vertices)) }

-- How many vertices a graph has.
abbrev pub vertex_count : Digraph → ℕ
vertex_count g = length g.vertices

-- What stands for a vertex past the last one.
abbrev pub no_vertex : Vertex
no_vertex = record { name = []; wcet = 0; deadline = 0 }

-- What stands for an edge past the last one.
abbrev pub no_edge : Edge
no_edge = record { from = 0; to = 0; sep = 0 }

-- The vertex of number v.
abbrev pub vertex_of : Digraph → ℕ → Vertex
vertex_of g v = slice_index_or g.vertices v no_vertex

-- The edges out of vertex v.
abbrev pub out_edges : Digraph → ℕ → List Edge
out_edges g v = slice_index_or g.out v []

-- How many edges leave vertex v.
abbrev pub out_degree : Digraph → ℕ → ℕ
out_degree g v = length (out_edges g v)

-- The k-th edge out of vertex v, counted from 0.
abbrev pub edge_of : Digraph → ℕ → ℕ → Edge
edge_of g v k = slice_index_or (out_edges g v) k no_edge

-- The graph keeps the limits: 1 to 96 vertices, at most 256 edges out of a vertex, at most one from one vertex to another,
-- times in range, and each edge leaves the vertex whose row it stands in and leads to a vertex.
pub record IsSoundGraph (g : Digraph) : Type 0 where
  pub some : 1 ≤ vertex_count g
  pub few : vertex_count g ≤ 96
  pub rows : length g.out ≡ vertex_count g
  pub wcet : (v : ℕ) → v < vertex_count g → IsTime (vertex_of g v).wcet
  pub deadline : (v : ℕ) → v < vertex_count g → IsTime (vertex_of g v).deadline
  pub degree : (v : ℕ) → v < vertex_count g → out_degree g v ≤ 256
  pub from : (v k : ℕ) → v < vertex_count g → k < out_degree g v → (edge_of g v k).from ≡ v
  pub sep : (v k : ℕ) → v < vertex_count g → k < out_degree g v → IsTime (edge_of g v k).sep
  pub to : (v k : ℕ) → v < vertex_count g → k < out_degree g v → (edge_of g v k).to < vertex_count g
  pub single : (v j k : ℕ) → v < vertex_count g → j < k → k < out_degree g v → (edge_of g v j).to ≢ (edge_of g v k).to

-- On each edge the deadline of the source is at most the separation.
abbrev pub IsConstrainedGraph : Digraph → Type 0
IsConstrainedGraph g = (v k : ℕ) → v < vertex_count g → k < out_degree g v → (vertex_of g v).deadline ≤ (edge_of g v k).sep
