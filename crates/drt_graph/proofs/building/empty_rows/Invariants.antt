use Rattle.std.proofs.Common.{◌≡◌, [], map}
use Rattle.std.specs.List.{range_with_len}
use Rattle.drt_model.specs.Digraph.{edges_from}
use Rattle.drt_graph.proofs.building.empty_rows.Given as goal

abbrev pub invariant-loop-row : goal.invariant-loop-row
invariant-loop-row l = map (λ row. row.items) l.rows.items ≡ map (edges_from []) (range_with_len 0 l._row)
