use Rattle.std.proofs.Common.{ℕ, ◌<◌}
use Rattle.drt_model.specs.Digraph.{out_degree}
use Rattle.drt_graph.specs.Fits.{Allows}
use Rattle.drt_graph.proofs.potentials.allow_all.Given as goal

abbrev pub invariant-sources : goal.invariant-sources
invariant-sources l = (u k : ℕ) → u < l.u → k < out_degree l.graph u → Allows l.graph l.num l.den l.potentials u k

abbrev pub invariant-edges : goal.invariant-edges
invariant-edges l = record {
  before : (u k : ℕ) → u < l.u → k < out_degree l.graph u → Allows l.graph l.num l.den l.potentials u k;
  now : (k : ℕ) → k < l.k → Allows l.graph l.num l.den l.potentials l.u k;
}
