-- The labels of walks, as entries.
use Rattle.std.proofs.Common.{ℕ, ◌<◌, ◌≤◌, List, refl}
use Rattle.drt_model.specs.Digraph.{Digraph, vertex_count}
use Rattle.drt_model.specs.Walk.{IsPath}
use Rattle.drt_graph.specs.FrontEntry.{due}
use Rattle.drt_graph.specs.WalkLabel.{demand_of}
use Rattle.drt_wave.specs.Fronts.{IsWalkEntry}

-- The label of a walk that is due within the bound is an entry of it.
pub walk_entry_is : (g : Digraph) (bound u : ℕ) (vs : List ℕ) → u < vertex_count g → IsPath g u vs → due g (demand_of g u vs) ≤ bound → IsWalkEntry g bound (demand_of g u vs)
walk_entry_is g bound u vs l path near = record { first = u; others = vs; label = record { is_vertex = l; path = path; is = refl }; within = near }
