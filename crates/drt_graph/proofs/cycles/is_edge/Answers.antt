use Rattle.std.proofs.Common.{refl}
use Rattle.drt_graph.proofs.Gaps.{edge_some}
use Rattle.drt_graph.proofs.cycles.is_edge.Goals as goal

pub returns-in-Some : goal.returns-in-Some
returns-in-Some c = (λ h. edge_some c.args.graph.now c.args.u c.args.v c.in-Some.field-0 c.in-Some.ensures, λ e. refl)
