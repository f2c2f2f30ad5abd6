use Rattle.std.proofs.Common.{◌≡◌, arith, subst}
use Rattle.drt_wave.specs.Seats.{KnowsTo}
use Rattle.drt_wave.proofs.Going.{all_none}
use Rattle.drt_wave_tests.proofs.work_tests.work_waves.Goals as goal

pub waves-init : goal.waves-init
waves-init c = (
  c.requires.seat,
  c.requires.whole,
  all_none c.args.table.now.plan c.args.seat.now c.requires.draws,
  c.requires.known,
  λ i n lt few. absurd (omega arith),
)

pub waves-preserved : goal.waves-preserved
waves-preserved c = let w = c.work_wave.ensures in (w.seat, w.whole, w.all, w.known, w.drawn)

pub returns-clause-known : goal.returns-clause-known
returns-clause-known c =
    let done : c.waves.wave ≡ c.args.count = omega arith in
    subst (λ k. KnowsTo k c.waves.seat) done c.waves.invariant.3
