-- The graphs of a set with what the search for the greatest ratio gives for each.
use Rattle.std.specs.Prelude.{List}
use Rattle.drt_model.specs.Each.{Each}
use Rattle.drt_model.specs.Digraph.{Digraph}
use Rattle.drt_graph.specs.RatioRules.{ProvesRatio}
use Rattle.drt_rates.specs.declared.ratio_claim.RatioClaim.{RatioClaim}
use Rattle.drt_ratio.specs.Claims.{IsRatioProof, IsInReach}

-- What `greatest` gives for a graph: the ratio with its evidence, in reach, and it keeps the rules of a claimed ratio.
pub record IsRatioGiven (g : Digraph) (p : RatioClaim) : Type 0 where
  pub greatest : IsRatioProof g p.num p.den p.cycle p.potentials
  pub reach : IsInReach g p.num p.den p.potentials
  pub keeps : ProvesRatio g p.num p.den p.cycle p.potentials

-- One for each graph, in order.
abbrev pub AreGiven : List Digraph → List RatioClaim → Type 0
AreGiven graphs proofs = Each IsRatioGiven graphs proofs
