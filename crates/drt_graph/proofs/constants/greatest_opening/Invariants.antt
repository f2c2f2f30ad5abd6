-- The greatest share of the vertices that were taken.
use Rattle.std.proofs.Common.{◌≡◌, pos, negsuc, ◌-◌, ◌*◌}
use Rattle.std.specs.Prelude.{◌-ℤ◌, ◌≤ℤ◌}
use Rattle.drt_model.specs.Walk.{wcet}
use Rattle.drt_graph.specs.Potential.{potential_of}
use Rattle.drt_graph.specs.Horizon.{most_to}
use Rattle.drt_graph.proofs.constants.greatest_opening.Given as goal

abbrev pub invariant-vertices : goal.invariant-vertices
invariant-vertices l = record {
  value : l.most ≡ most_to (λ u. pos (l.den * wcet l.graph u) -ℤ potential_of l.potentials u) (l.v - 1);
  low : negsuc 9999999999999999 ≤ℤ l.most;
  high : l.most ≤ℤ pos 11000000000000000;
}
