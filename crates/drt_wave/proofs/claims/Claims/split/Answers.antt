use Rattle.drt_wave.proofs.ClaimSteps.{splits}
use Rattle.drt_wave.proofs.claims.Claims.split.Goals as goal

pub split_seat-requires : goal.split_seat-requires
split_seat-requires c = let t = c.args.self.now in (c.requires.seat.id, t.some, splits _ _ _ c.requires.parts)
