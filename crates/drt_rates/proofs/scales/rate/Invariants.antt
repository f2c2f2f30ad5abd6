-- What is done and what is left of the sum are the whole.
use Rattle.std.proofs.Common.{◌≡◌, ◌+◌, ◌*◌, ◌≤◌, drop}
use Rattle.drt_model.specs.Utilisation.{rate}
use Rattle.drt_rates.specs.RatioClaims.{fractions}
use Rattle.drt_rates.proofs.scales.rate.Given as goal

abbrev pub invariant-ratios : goal.invariant-ratios
invariant-ratios l = record {
  total : l.total + rate l.scale (fractions (drop l.i l.ratios)) ≡ rate l.scale (fractions l.ratios);
  most : l.total ≤ l.i * 18446744073709551616000000000;
}
