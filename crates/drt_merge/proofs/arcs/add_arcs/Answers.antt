use Rattle.drt_merge.proofs.Walks.{arcs_more}
use Rattle.std.proofs.Common.{◌∷◌, [], ◌++◌, ◌∙◌, ap, arith}
use Rattle.drt_merge.specs.declared.arcs.Arc.{Arc}
use Rattle.drt_merge.proofs.arcs.add_arcs.Goals as goal

pub edges-preserved : goal.edges-preserved
edges-preserved c =
    arcs_more c.args.graph.now c.args.u c.edges.k c.edges.arcs.items c.push.new.self.items c.requires.vertex (omega arith) c.edges.invariant
    (c.in_ok-push.ensures.items ∙ ap (λ (a : Arc). c.edges.arcs.items ++ a ∷ []) c.arc_of.ensures)
