use Rattle.std.proofs.Common.{◌≤◌, ◌-◌, ◌*◌, ◌/◌}
use Rattle.drt_model.specs.Utilisation.{HasRatio, AreDistinct}
use Rattle.drt_ratio.proofs.improving.greatest.Given as goal

abbrev pub invariant-improving : goal.invariant-improving
invariant-improving l = record {
  num_small : l.ratio.num ≤ 100000000;
  den_small : l.ratio.den ≤ 100000000;
  has : HasRatio l.graph l.ratio.num l.ratio.den l.cycle.items;
  distinct : AreDistinct l.cycle.items;
}

abbrev pub decreases-improving : goal.decreases-improving
decreases-improving l = 1000000000000000000000000 - l.ratio.num * 10000000000000000 / l.ratio.den
