use Rattle.std.proofs.Common.{[], sym, arith}
use Rattle.std.proofs.lemmas.List.{map-append}
use Rattle.std.proofs.lemmas.List.FromFn.{map-range_with_len_more}
use Rattle.drt_model.specs.Digraph.{edges_from}
use Rattle.drt_graph.proofs.building.empty_rows.Goals as goal

pub loop-row-preserved : goal.loop-row-preserved
loop-row-preserved c =
    rw (c.in_ok-push.ensures.items, map-append, c.loop-row.invariant, c.new.ensures.items) (sym (map-range_with_len_more (edges_from []) 0 c.loop-row._row c.loop-row._row (omega arith)))
