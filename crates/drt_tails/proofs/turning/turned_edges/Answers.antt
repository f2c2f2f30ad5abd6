use Rattle.std.proofs.Common.{arith, refl}
use Rattle.drt_tails.proofs.TurnedEdges.{edges_none, edges_next, edges_all}
use Rattle.drt_tails.proofs.turning.turned_edges.Goals as goal

pub vertices-init : goal.vertices-init
vertices-init c = edges_none c.args.graph.now c.new-edges.result.items c.new-edges.ensures.items

pub vertices-preserved : goal.vertices-preserved
vertices-preserved c = edges_next c.args.graph.now c.vertices.u _ _ refl c.in_ok-add_turned.ensures

pub returns : goal.returns
returns c = edges_all c.args.graph.now c.vertices.u c.vertices.edges.items (omega arith) c.vertices.invariant
