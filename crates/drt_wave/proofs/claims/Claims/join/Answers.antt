use Rattle.drt_wave.proofs.ClaimSteps.{joins}
use Rattle.drt_wave.proofs.claims.Claims.join.Goals as goal

pub join_seat-requires : goal.join_seat-requires
join_seat-requires c = let t = c.args.self.now in (c.requires.seat.id, c.requires.other.id, c.requires.other.slots, t.some, joins _ _ _ _ _ c.requires.parts)
