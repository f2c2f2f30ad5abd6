use Rattle.std.proofs.Common.{◌<◌, ◌∙◌, ◌++◌, ◌∷◌, [], List, length, map, get_or, sym, ap, arith}
use Rattle.std.proofs.lemmas.List.{map-set, get_or-map, length-map}
use Rattle.std.proofs.lemmas.List.FromFn.{length-range_with_len}
use Rattle.drt_model.specs.declared.tasks.Edge.{Edge}
use Rattle.drt_model.specs.Digraph.{no_edge}
use Rattle.drt_graph.proofs.Rows.{rows_more}
use Rattle.drt_graph.proofs.building.rows_of.Goals as goal

pub index_mut-requires : goal.index_mut-requires
index_mut-requires c =
    let l : c.loop-edge.edge-index < length c.args.edges.now = omega arith in
    let within = c.requires c.loop-edge.edge-index no_edge l in
    let long = simp (length-map, length-range_with_len) at (ap length c.loop-edge.invariant) in
    omega (arith, within, long, c.loop-edge.rows.ok.0)

pub loop-edge-preserved : goal.loop-edge-preserved
loop-edge-preserved c =
    let l : c.loop-edge.edge-index < length c.args.edges.now = omega arith in
    let within = c.requires c.loop-edge.edge-index no_edge l in
    let long = simp (length-map, length-range_with_len) at (ap length c.loop-edge.invariant) in
    let at = (get_or c.args.edges.now c.loop-edge.edge-index no_edge).from in
    let inside : at < length c.loop-edge.rows.items = omega (arith, within, long) in
    let row = ap (λ row. row.items) c.index_mut.ensures.value ∙ sym (get_or-map (λ row. row.items) c.loop-edge.rows.items at c.index_mut.result.now [] inside) in
    map-set (λ row. row.items) c.loop-edge.rows.items at c.push.new.self
    ∙ rows_more (map (λ row. row.items) c.loop-edge.rows.items) c.args.edges.now c.loop-edge.edge-index c.args.count no_edge c.push.new.self.items l within c.loop-edge.invariant
    (c.in_ok-push.ensures.items ∙ ap (λ (xs : List Edge). xs ++ get_or c.args.edges.now c.loop-edge.edge-index no_edge ∷ []) row)
