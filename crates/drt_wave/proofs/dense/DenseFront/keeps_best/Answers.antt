use Rattle.std.proofs.Common.{subst}
use Rattle.drt_wave.specs.Dense.{AreBest}
use Rattle.drt_wave.proofs.dense.DenseFront.keeps_best.Goals as goal

pub returns-clause-best : goal.returns-clause-best
returns-clause-best c = subst (λ d. AreBest d.plan d.columns) c.self.view_is c.self.invariant.2
