use Rattle.std.proofs.Common.{ℕ, ◌<◌}
use Rattle.drt_model.specs.Digraph.{out_degree}
use Rattle.drt_ratio.specs.Levels.{IsRaised, IsRelaxed}
use Rattle.drt_ratio.proofs.levels.raised.Given as goal

abbrev pub invariant-sources : goal.invariant-sources
invariant-sources l = record {
  raised : IsRaised l.graph l.a l.b l.low l.high;
  done : (u k : ℕ) → u < l.u → k < out_degree l.graph u → IsRelaxed l.graph l.a l.b l.low l.high u k;
}

abbrev pub invariant-edges : goal.invariant-edges
invariant-edges l = record {
  raised : IsRaised l.graph l.a l.b l.low l.high;
  done : (u k : ℕ) → u < l.u → k < out_degree l.graph u → IsRelaxed l.graph l.a l.b l.low l.high u k;
  now : (k : ℕ) → k < l.k → IsRelaxed l.graph l.a l.b l.low l.high l.u k;
}
