use Rattle.std.proofs.Common.{◌<◌, sym, subst}
use Rattle.drt_wave.specs.Keys.{lane_net, lane_first, lane_count}
use Rattle.drt_wave.proofs.LaneSteps.{closes_known}
use Rattle.drt_wave.proofs.lane.Lane.close.Goals as goal

pub returns-clause-best : goal.returns-clause-best
returns-clause-best c =
    let l = c.args.self in
    closes_known lane_net lane_first lane_count l.table.shared.key _ _ _ _ (λ o lt. c.requires.known o (subst (λ n. o < n) (sym l.counted) lt)) c.close_with.ensures.values.2
