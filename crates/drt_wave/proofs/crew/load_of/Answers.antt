use Rattle.std.proofs.Common.{arith}
use Rattle.drt_wave.proofs.Going.{kept_refl, kept_more}
use Rattle.drt_wave.proofs.crew.load_of.Goals as goal

pub looks-init : goal.looks-init
looks-init c = (c.requires.seat, kept_refl _, omega arith)

pub looks-preserved : goal.looks-preserved
looks-preserved c = let i = c.looks.invariant in (c.glance_at.ensures.seat, kept_more _ _ _ i.1 c.glance_at.ensures.kept, omega (arith, i.2))
