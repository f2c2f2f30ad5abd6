-- A graph whose edges are turned round, and whose deadlines are 1.
use Rattle.std.specs.Prelude.{◌≡◌, ℕ, ◌<◌, ◌⊎◌, List, [], ◌∷◌, map, All, Contains, Some}
use Rattle.drt_model.specs.declared.tasks.Vertex.{Vertex}
use Rattle.drt_model.specs.declared.tasks.Edge.{Edge}
use Rattle.drt_model.specs.declared.tasks.Task.{Task}
use Rattle.drt_model.specs.Digraph.{Digraph, digraph_of, vertex_count, out_degree, edge_of}
use Rattle.drt_model.specs.Walk.{wcet, deadline, sep}

-- The vertex, with the deadline 1.
abbrev pub urgent : Vertex → Vertex
urgent v = record { name = v.name; wcet = v.wcet; deadline = 1 }

-- The k-th edge out of u, turned round.
abbrev pub turned_edge : Digraph → ℕ → ℕ → Edge
turned_edge g u k = record { from = (edge_of g u k).to; to = u; sep = (edge_of g u k).sep }

-- The edge is one of the graph, turned round.
pub record IsTurnedEdge (g : Digraph) (e : Edge) : Type 0 where
  pub number : ℕ
  pub vertex : e.to < vertex_count g
  pub edge : number < out_degree g e.to
  pub is : e ≡ turned_edge g e.to number

-- The edges are turned ones of the graph, and have those out of the vertices before u and the first k of those out of u.
pub record AreTurnedTo (g : Digraph) (u k : ℕ) (edges : List Edge) : Type 0 where
  pub each : All (IsTurnedEdge g) edges
  pub all : (v j : ℕ) → v < vertex_count g → j < out_degree g v → (v < u) ⊎ ((v ≡ u) × (j < k)) → Contains edges (turned_edge g v j)

-- The edges are those of the graph, turned round.
pub record AreTurned (g : Digraph) (edges : List Edge) : Type 0 where
  pub each : All (IsTurnedEdge g) edges
  pub all : (v j : ℕ) → v < vertex_count g → j < out_degree g v → Contains edges (turned_edge g v j)

-- The task has the vertices of the graph, with the deadline 1, and its edges, turned round.
pub record IsTurnedTask (g : Digraph) (t : Task) : Type 0 where
  pub vertices : t.vertices ≡ map urgent g.vertices
  pub edges : AreTurned g t.edges

-- The only graph is that of such a task.
pub record AreTurnedGraphs (g : Digraph) (graphs : List Digraph) : Type 0 where
  pub task : Task
  pub turned : IsTurnedTask g task
  pub are : graphs ≡ digraph_of task ∷ []

-- The second graph has the vertices of the first with the deadline 1, and an edge from v to u exactly where the first has one from u to v, with
-- the same separation.
pub record IsTurned (g h : Digraph) : Type 0 where
  pub count : vertex_count h ≡ vertex_count g
  pub works : (v : ℕ) → wcet h v ≡ wcet g v
  pub due : (v : ℕ) → v < vertex_count g → deadline h v ≡ 1
  pub edges : (u v p : ℕ) → sep g u v ≡ Some p → sep h v u ≡ Some p
  pub back : (u v p : ℕ) → sep h v u ≡ Some p → sep g u v ≡ Some p
