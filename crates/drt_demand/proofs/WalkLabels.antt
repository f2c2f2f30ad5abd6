-- The demand label of a walk is made by opening and extension.
use Rattle.drt_model.specs.Digraph.{Digraph}
use Rattle.drt_graph.proofs.WalkLabels.{demand_one, demand_more}
use Rattle.drt_demand.specs.WalkLabel.{AreWalkLabels}

pub walk_labels : (g : Digraph) → AreWalkLabels g
walk_labels g = record { opened = λ u bound. demand_one g u; extended = demand_more g }
