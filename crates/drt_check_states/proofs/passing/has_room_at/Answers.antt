use Rattle.std.proofs.Common.{arith, ap}
use Rattle.std.proofs.Common.{List}
use Rattle.drt_states.specs.States.{asked_from}
use Rattle.drt_states.specs.declared.claims.StateEntry.{StateEntry}
use Rattle.drt_check_states.proofs.passing.has_room_at.Goals as goal

pub returns : goal.returns
returns c =
    let same = ap (λ (es : List StateEntry). asked_from 0 c.args.tails.now es c.args.t) c.as_slice.ensures in (
      λ e.
          let f = c.fits.ensures.0 e in
          record { some = omega arith; within = omega arith; fits = omega (arith, f, same) },
      λ has. c.fits.ensures.1 (omega (arith, has.fits, same)),
    )
