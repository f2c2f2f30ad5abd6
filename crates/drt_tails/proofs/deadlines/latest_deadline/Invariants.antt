-- The greatest deadline so far.
use Rattle.std.proofs.Common.{ℕ, ◌<◌, ◌≤◌}
use Rattle.drt_model.specs.Numbers.{most_time}
use Rattle.drt_model.specs.Digraph.{vertex_count}
use Rattle.drt_model.specs.Walk.{deadline}
use Rattle.drt_tails.proofs.deadlines.latest_deadline.Given as goal

abbrev pub invariant-vertices : goal.invariant-vertices
invariant-vertices l = record {
  some : 1 ≤ l.latest;
  most : l.latest ≤ most_time;
  bounds : (u : ℕ) → u < l.v → deadline l.graph u ≤ l.latest;
  least : (n : ℕ) → 1 ≤ n → ((u : ℕ) → u < vertex_count l.graph → deadline l.graph u ≤ n) → l.latest ≤ n;
}
