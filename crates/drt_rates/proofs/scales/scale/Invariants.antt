-- The number is the scale of the ratios that were taken.
use Rattle.std.proofs.Common.{◌^◌, ◌≤◌, take}
use Rattle.drt_model.specs.Utilisation.{IsScale}
use Rattle.drt_rates.specs.RatioClaims.{fractions}
use Rattle.drt_rates.proofs.scales.scale.Given as goal

abbrev pub invariant-ratios : goal.invariant-ratios
invariant-ratios l = record {
  scale : IsScale (fractions (take l.i l.ratios)) l.common;
  most : l.common ≤ 2 ^ 60;
}
