use Rattle.drt_file.proofs.NamesAbove.{names_after_edge}
use Rattle.drt_file.proofs.effects.after_edge.Goals as goal

pub invariant_of-result : goal.invariant_of-result
invariant_of-result c =
    names_after_edge c.args.edge c.r.inside.state c.in_ok-edge_put.field-0 c.r.inside.tasks c.r.inside.vertices c.r.invariant c.in_ok-edge_put.ensures
