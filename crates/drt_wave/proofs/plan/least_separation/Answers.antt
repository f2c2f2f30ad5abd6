use Rattle.std.proofs.Common.{rules, arith}
use Rattle.drt_wave.proofs.plan.least_separation.Goals as goal

pub vertices-preserved : goal.vertices-preserved
vertices-preserved c = let least = c.least_out-least.ensures in (
  search rules,
  search rules,
  search rules,
  λ n few below. least.greatest n
      (c.vertices.invariant.3 n few (λ u j before edge. below u j (omega (arith, before)) edge))
      (λ k edge. below c.vertices.v k (omega arith) edge),
)
