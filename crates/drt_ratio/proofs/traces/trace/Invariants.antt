use Rattle.std.proofs.Common.{◌<◌, ◌≤◌}
use Rattle.drt_model.specs.Digraph.{vertex_count}
use Rattle.drt_ratio.specs.Levels.{IsTrail}
use Rattle.drt_ratio.proofs.traces.trace.Given as goal

abbrev pub invariant-down : goal.invariant-down
invariant-down l = record {
  within : l.at < vertex_count l.graph;
  level : l.k ≤ vertex_count l.graph;
  trail : IsTrail l.graph l._a l._b l.levels (vertex_count l.graph) l.v l.k l.at l.trail.items;
}

abbrev pub decreases-down : goal.decreases-down
decreases-down l = l.k
