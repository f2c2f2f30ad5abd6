use Rattle.std.proofs.Crossing.{crosses}
use denote.Param.Send.{sendable}
use Rattle.drt_tree.proofs.Crossing.{forest_sync}
use Rattle.drt_shared_frontier.proofs.Sends.{pass_send, shared_frontier_sync}
use Rattle.drt_shared_frontier.proofs.refinement.run_passes.Goals as goal

pub run_all-requires-send-W-Pass : goal.run_all-requires-send-W-Pass
run_all-requires-send-W-Pass g c κs within = search (sendable, pass_send) depth 24

pub run_all-requires-sync-W : goal.run_all-requires-sync-W
run_all-requires-sync-W g c κs within = search (sendable, crosses, forest_sync, shared_frontier_sync) depth 24
