-- The ratios of a set, and of its graphs.
use Rattle.std.proofs.Common.{List, [], ◌∷◌}
use Rattle.drt_model.specs.Digraph.{Digraph}
use Rattle.drt_model.specs.Utilisation.{IsRatio, AreRatios}
use Rattle.drt_rates.specs.declared.ratio_claim.RatioClaim.{RatioClaim}
use Rattle.drt_ratio.specs.Claims.{IsRatioProof}
use Rattle.drt_ratio.specs.SetRatios.{AreRatioProofs}
use Rattle.drt_rates.specs.RatioClaims.{fraction_of, fractions}

ratio_of : (g : Digraph) (p : RatioClaim) → IsRatioProof g p.num p.den p.cycle p.potentials → IsRatio g (fraction_of p)
ratio_of g p is = record { lowest = is.lowest; least = is.least; cycle = p.cycle; has = is.has }

-- The ratios of a set, graph by graph.
pub proofs_give_ratios : (graphs : List Digraph) (proofs : List RatioClaim) → AreRatioProofs graphs proofs → AreRatios graphs (fractions proofs)
proofs_give_ratios [] [] are = tt
proofs_give_ratios [] (p ∷ proofs) are = absurd are
proofs_give_ratios (g ∷ graphs) [] are = absurd are
proofs_give_ratios (g ∷ graphs) (p ∷ proofs) are = (ratio_of g p are.0, proofs_give_ratios graphs proofs are.1)
