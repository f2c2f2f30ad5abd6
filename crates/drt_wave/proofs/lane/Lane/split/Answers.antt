use Rattle.drt_wave.proofs.LaneSteps.{splits}
use Rattle.drt_wave.proofs.lane.Lane.split.Goals as goal

pub split_seat-requires : goal.split_seat-requires
split_seat-requires c = (c.requires.seat.id, c.args.self.now.some, splits _ _ _ _ _ _ c.requires.parts)
