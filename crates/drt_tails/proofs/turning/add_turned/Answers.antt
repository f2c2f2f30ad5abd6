use Rattle.std.proofs.Common.{◌∷◌, [], ◌++◌, ◌∙◌, ap, arith}
use Rattle.drt_model.specs.declared.tasks.Edge.{Edge}
use Rattle.drt_tails.proofs.TurnedEdges.{edges_more}
use Rattle.drt_tails.proofs.turning.add_turned.Goals as goal

pub edges-preserved : goal.edges-preserved
edges-preserved c =
    edges_more c.args.graph.now c.args.u c.edges.k c.edges.edges.items c.push.new.self.items c.requires.vertex (omega arith) c.edges.invariant
    (c.in_ok-push.ensures.items ∙ ap (λ (e : Edge). c.edges.edges.items ++ record { from = e.to; to = c.args.u; sep = e.sep } ∷ []) c.out_edge-edge.ensures)
