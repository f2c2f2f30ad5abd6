use Rattle.std.proofs.Common.{◌∙◌, sym, add-one, arith}
use Rattle.drt_graph.proofs.Edges.{first_here, first_later, none_left}
use Rattle.drt_graph.proofs.graph.first_to.Goals as goal

pub returns-then-edge-v : goal.returns-then-edge-v
returns-then-edge-v c = sym (first_here c.args.edges.now c.loop-edge.edge-index c.args.v _ (omega arith) c.if-edge-v.true) ∙ c.loop-edge.invariant

pub loop-edge-preserved : goal.loop-edge-preserved
loop-edge-preserved c = rw add-one (first_later c.args.edges.now c.loop-edge.edge-index c.args.v _ (omega arith) c.if-edge-v.false ∙ c.loop-edge.invariant)

pub returns : goal.returns
returns c = sym (none_left c.args.edges.now c.loop-edge.edge-index c.args.v (omega arith)) ∙ c.loop-edge.invariant
