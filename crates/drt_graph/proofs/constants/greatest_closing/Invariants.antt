-- The greatest share of the vertices that were taken.
use Rattle.std.proofs.Common.{◌≡◌, pos, negsuc, ◌-◌, ◌*◌}
use Rattle.std.specs.Prelude.{◌-ℤ◌, ◌≤ℤ◌}
use Rattle.drt_graph.specs.Potential.{potential_of}
use Rattle.drt_graph.specs.Horizon.{most_to}
use Rattle.drt_model.specs.Walk.{deadline}
use Rattle.drt_graph.proofs.constants.greatest_closing.Given as goal

abbrev pub invariant-vertices : goal.invariant-vertices
invariant-vertices l = record {
  value : l.most ≡ most_to (λ u. potential_of l.potentials u -ℤ pos (l.num * deadline l.graph u)) (l.v - 1);
  low : negsuc 10999999999999999 ≤ℤ l.most;
  high : l.most ≤ℤ pos 10000000000000000;
}
