use Rattle.std.proofs.Common.{◌≡◌, map, take}
use Rattle.std.specs.List.{range_with_len}
use Rattle.drt_model.specs.Digraph.{edges_from}
use Rattle.drt_graph.proofs.building.rows_of.Given as goal

abbrev pub invariant-loop-edge : goal.invariant-loop-edge
invariant-loop-edge l = map (λ row. row.items) l.rows.items ≡ map (edges_from (take l.edge-index l.edges)) (range_with_len 0 l.count)
