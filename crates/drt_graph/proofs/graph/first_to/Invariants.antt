use Rattle.std.proofs.Common.{◌≡◌, drop}
use Rattle.drt_model.specs.Walk.{sep_in}
use Rattle.drt_graph.proofs.graph.first_to.Given as goal

abbrev pub invariant-loop-edge : goal.invariant-loop-edge
invariant-loop-edge l = sep_in (drop l.edge-index l.edges) l.v ≡ sep_in l.edges l.v
