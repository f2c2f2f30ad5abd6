-- What is done and what is left of the sum are the whole.
use Rattle.std.proofs.Common.{◌≡◌, ◌+◌, ◌*◌, ◌≤◌, drop}
use Rattle.drt_graph.specs.Horizon.{extra}
use Rattle.drt_rates.specs.RatioClaims.{fractions, potentials}
use Rattle.drt_rates.specs.Rates.{AreRated}
use Rattle.drt_rates.proofs.horizons.extra_of.Given as goal

abbrev pub invariant-tasks : goal.invariant-tasks
invariant-tasks l = record {
  rated : AreRated (drop l.i l.graphs) (drop l.i l.ratios);
  total : l.total + extra l.scale (drop l.i l.graphs) (fractions (drop l.i l.ratios)) (potentials (drop l.i l.ratios)) ≡ extra l.scale l.graphs
      (fractions l.ratios) (potentials l.ratios);
  most : l.total ≤ l.i * 25364273101350633472000000000000000;
}
