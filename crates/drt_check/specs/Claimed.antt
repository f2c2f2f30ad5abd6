-- The rules of one claimed ratio.
use Rattle.drt_model.specs.Digraph.{Digraph}
use Rattle.drt_graph.specs.RatioRules.{ArePotentialsCounted, FitPotentials, IsClosedCycle, IsTight}
use Rattle.drt_rates.specs.declared.ratio_claim.RatioClaim.{RatioClaim}
use Rattle.drt_check.specs.declared.claimed.ClaimRule.{ClaimRule}
use Rattle.drt_check.specs.declared.claimed.ClaimRule.TheVariants.{Counted, Fits, Closed, Tight}

-- A claim keeps a rule.
abbrev pub KeepsRatioRule : ClaimRule → Digraph → RatioClaim → Type 0
KeepsRatioRule Counted g c = ArePotentialsCounted g c.potentials
KeepsRatioRule Fits g c = FitPotentials g c.num c.den c.potentials
KeepsRatioRule Closed g c = IsClosedCycle g c.num c.cycle
KeepsRatioRule Tight g c = IsTight g c.num c.den c.cycle
