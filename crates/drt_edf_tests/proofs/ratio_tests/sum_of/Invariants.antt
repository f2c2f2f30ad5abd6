-- The ratios so far are small.
use Rattle.drt_ratio.specs.SetRatios.{AreSmall}
use Rattle.drt_edf_tests.proofs.ratio_tests.sum_of.Given as goal

abbrev pub invariant-ratios : goal.invariant-ratios
invariant-ratios l = AreSmall l.proofs.items
