use Rattle.drt_graph.proofs.Bounds.{work_is_bounded}
use Rattle.drt_horizon.proofs.laws.work_is_bounded.Goals as goal

pub returns : goal.returns
returns c = work_is_bounded
