-- Demand labels are the labels of walks.
use Rattle.std.specs.Prelude.{◌≡◌, ℕ, List, [], ◌∷◌, ◌++◌}
use Rattle.drt_model.specs.Digraph.{Digraph}
use Rattle.drt_model.specs.Walk.{gap, wcet, last_of}
use Rattle.drt_graph.specs.WalkLabel.{demand_of}
use Rattle.drt_demand.specs.Demand.{opening_entry, extend}

-- Demand labels are the labels of walks: that of one vertex is the opening label, and that of a longer walk is the label
-- of the walk without its last vertex, extended by the last edge.
pub record AreWalkLabels (g : Digraph) : Type 0 where
  pub opened : (u bound : ℕ) → demand_of g u [] ≡ opening_entry u (wcet g u) bound
  pub extended : (u : ℕ) (vs : List ℕ) (v : ℕ) → demand_of g u (vs ++ v ∷ []) ≡ extend (demand_of g u vs) (gap g (last_of u vs) v) v (wcet g v)
