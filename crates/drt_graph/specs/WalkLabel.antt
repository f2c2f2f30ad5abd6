-- The labels of walks, as the entries of a front give them.
use Rattle.std.specs.Prelude.{◌≡◌, ℕ, ◌<◌, List, ◌∷◌}
use Rattle.drt_model.specs.Digraph.{Digraph, vertex_count}
use Rattle.drt_model.specs.Walk.{IsPath, last_of, work, span}
use Rattle.drt_graph.specs.declared.front.FrontEntry.{FrontEntry}

-- The label of the walk that starts at u and goes on over the other vertices: its last vertex, its span and its work.
abbrev pub demand_of : Digraph → ℕ → List ℕ → FrontEntry
demand_of g u vs = record { vertex = last_of u vs; offset = span g u vs; work = work g (u ∷ vs) }

-- The list of u and the others is a walk of the graph that has this label.
pub record IsLabelOf (g : Digraph) (u : ℕ) (others : List ℕ) (e : FrontEntry) : Type 0 where
  pub is_vertex : u < vertex_count g
  pub path : IsPath g u others
  pub is : e ≡ demand_of g u others
