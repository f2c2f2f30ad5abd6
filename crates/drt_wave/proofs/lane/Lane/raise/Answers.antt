use Rattle.std.proofs.Common.{subst, ◌<◌}
use Rattle.drt_wave.specs.Keys.{lane_net, lane_first, lane_count}
use Rattle.drt_wave.proofs.LaneSteps.{raised_to}
use Rattle.drt_wave.proofs.lane.Lane.raise.Goals as goal

pub fetch_max-requires : goal.fetch_max-requires
fetch_max-requires c =
    let t = c.args.self.now in let inside = subst (λ n. c.args.offset < n) t.counted c.requires.offset in
    (c.requires.seat.id, c.requires.offset, raised_to lane_net lane_first lane_count t.table.shared.key _ _ _ _ _ c.requires.parts inside c.requires.work)
