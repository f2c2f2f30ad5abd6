use Rattle.std.proofs.Common.{All, take}
use Rattle.drt_model.specs.Constrained.{IsConstrainedEdge}
use Rattle.drt_graph.proofs.checking.first_past_edge.Given as goal

abbrev pub invariant-loop-k : goal.invariant-loop-k
invariant-loop-k l = All (IsConstrainedEdge l.task) (take l.k l.edges)
