-- What is summed and the sums of the rest are the whole.
use Rattle.std.proofs.Common.{◌*◌, ◌≤◌}
use Rattle.drt_model.specs.Numbers.{most_time}
use Rattle.drt_graph.proofs.Rests.{IsSummed}
use Rattle.drt_graph.proofs.cycles.cycle_sums.Given as goal

abbrev pub invariant-sums : goal.invariant-sums
invariant-sums l = record {
  summed : IsSummed l.graph l.cycle l.work l.span l.at l.v-index;
  work_small : l.work ≤ l.v-index * most_time;
  span_small : l.span ≤ l.v-index * most_time;
}
