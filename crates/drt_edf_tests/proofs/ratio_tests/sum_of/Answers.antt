use Rattle.std.proofs.Common.{arith}
use Rattle.drt_edf_tests.proofs.Small.{small_push}
use Rattle.drt_edf_tests.proofs.ratio_tests.sum_of.Goals as goal

pub ratios-preserved : goal.ratios-preserved
ratios-preserved c =
    rw c.in_ok-push.ensures.items
    (small_push _ _ c.ratios.invariant (omega (arith, c.ratio.ensures.num)) c.ratio.ensures.some (omega (arith, c.ratio.ensures.den)))
