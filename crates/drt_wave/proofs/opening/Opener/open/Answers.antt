use Rattle.drt_wave.proofs.Places.{has_filled}
use Rattle.drt_wave.proofs.opening.Opener.open.Goals as goal

pub returns-in-Ok : goal.returns-in-Ok
returns-in-Ok c =
    let new = c.make.ensures.opener in record {
      blank = new.blank;
      lanes = has_filled c.args.plan.now c.make.new.self.places.items c.args.vertex c.in-Ok.opened new.lanes c.in-Ok.ensures.lane c.in-Ok.ensures.seat c.in-Ok.ensures.fresh;
    }
