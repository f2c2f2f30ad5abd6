use Rattle.std.proofs.Common.{◌<◌, ◌≤◌, subst, rules}
use Rattle.drt_model.specs.Walk.{deadline}
use Rattle.drt_tails.proofs.deadlines.latest_deadline.Goals as goal

pub vertices-preserved : goal.vertices-preserved
vertices-preserved c = record {
  some = search rules;
  most = search rules;
  bounds = search rules;
  least = λ n some all.
      (let so_far : c.vertices.latest ≤ n = c.vertices.invariant.least n some all in
      let next : deadline c.args.graph.now c.vertices.v ≤ n = all c.vertices.v (subst (λ m. c.vertices.v < m) c.vertex_count-v-end.ensures.count c.vertices-test.true) in
      search rules);
}
