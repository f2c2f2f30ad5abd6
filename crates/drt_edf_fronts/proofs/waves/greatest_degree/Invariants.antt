-- No vertex so far has more edges out of it, and some vertex has as many.
use Rattle.std.proofs.Common.{ℕ, ◌<◌, ◌≤◌}
use Rattle.drt_model.specs.Digraph.{out_degree}
use Rattle.drt_graph.specs.Degrees.{most_out}
use Rattle.drt_edf_fronts.proofs.waves.greatest_degree.Given as goal

abbrev pub invariant-vertices : goal.invariant-vertices
invariant-vertices l = (l.most ≤ most_out l.graph.out) × ((u : ℕ) → u < l.v → out_degree l.graph u ≤ l.most)
