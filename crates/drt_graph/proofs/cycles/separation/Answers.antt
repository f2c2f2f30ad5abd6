use Rattle.std.proofs.Common.{arith}
use Rattle.drt_graph.proofs.Gaps.{none_past}
use Rattle.drt_graph.proofs.cycles.separation.Goals as goal

pub returns-else-u-vertex_count : goal.returns-else-u-vertex_count
returns-else-u-vertex_count c = none_past c.args.graph.now c.vertex_count.ensures.sound c.args.u c.args.v (omega arith)
