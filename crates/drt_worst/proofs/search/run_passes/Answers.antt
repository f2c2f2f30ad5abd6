use Rattle.std.proofs.Crossing.{crosses}
use denote.Param.Send.{sendable}
use Rattle.drt_tree.proofs.Crossing.{forest_sync}
use Rattle.drt_lock.proofs.Crossing.{lease_sync, shared_sync}
use Rattle.drt_worst.proofs.Sends.{pass_send}
use Rattle.drt_worst.proofs.search.run_passes.Goals as goal

pub run_all-requires-send-W-Pass : goal.run_all-requires-send-W-Pass
run_all-requires-send-W-Pass g c κs within = search (sendable, pass_send) depth 24

pub run_all-requires-sync-W : goal.run_all-requires-sync-W
run_all-requires-sync-W g c κs within = search (sendable, crosses, forest_sync, shared_sync, lease_sync) depth 24
