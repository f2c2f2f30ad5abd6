use Rattle.std.proofs.Common.{arith, refl}
use Rattle.drt_merge.proofs.Walks.{arcs_none, arcs_next, arcs_all}
use Rattle.drt_merge.proofs.arcs.arcs_of.Goals as goal

pub vertices-init : goal.vertices-init
vertices-init c = arcs_none c.args.graph.now c.new-arcs.result.items c.new-arcs.ensures.items

pub vertices-preserved : goal.vertices-preserved
vertices-preserved c = arcs_next c.args.graph.now c.vertices.u _ _ refl c.in_ok-add_arcs.ensures

pub returns : goal.returns
returns c = arcs_all c.args.graph.now c.vertices.u c.vertices.arcs.items (omega arith) c.vertices.invariant
