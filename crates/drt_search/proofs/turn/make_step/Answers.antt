use Rattle.drt_search.proofs.Turns.{Shows, may_offer, may_close}
use Rattle.drt_search.proofs.turn.make_step.Goals as goal

pub offer-requires-clause-holds : goal.offer-requires-clause-holds
offer-requires-clause-holds g c κs within =
    let a = g.L.Label.algebra in
    let t = c.args.shared.now.setting in
    let o = c.args.pass.now.holding in
    let shows : Shows a t o c.args.graph.now c.in-Some.label.now c.offered-edge.result c.out_degree.result c.vertex.result = record {
      graph_is = c.requires.graph;
      label_is = c.in-Some.ensures;
      edge_is = c.offered-edge.ensures;
      vertex_is = c.vertex.ensures;
      degree_is = c.out_degree.ensures;
    } in
    may_offer a t o c.args.graph.now c.in-Some.label.now _ _ _ c.in-Ok.twin shows c.if-edge-out_degree.true c.in-Ok.ensures

pub close_node-requires-clause-holds : goal.close_node-requires-clause-holds
close_node-requires-clause-holds g c κs within =
    let a = g.L.Label.algebra in
    let t = c.args.shared.now.setting in
    let o = c.args.pass.now.holding in
    let shows : Shows a t o c.args.graph.now c.in-Some.label.now c.offered-edge.result c.out_degree.result c.vertex.result = record {
      graph_is = c.requires.graph;
      label_is = c.in-Some.ensures;
      edge_is = c.offered-edge.ensures;
      vertex_is = c.vertex.ensures;
      degree_is = c.out_degree.ensures;
    } in
    may_close a t o c.args.graph.now c.in-Some.label.now _ _ _ shows c.requires.pass.held c.if-edge-out_degree.false
