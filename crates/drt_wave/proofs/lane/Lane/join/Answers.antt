use Rattle.drt_wave.proofs.LaneSteps.{joins}
use Rattle.drt_wave.proofs.lane.Lane.join.Goals as goal

pub join_seat-requires : goal.join_seat-requires
join_seat-requires c = (c.requires.seat.id, c.requires.other.id, c.requires.other.slots, c.args.self.now.some, joins _ _ _ _ _ _ _ _ c.requires.parts)
