use Rattle.std.proofs.Common.{ℕ, ◌<◌, subst}
use Rattle.drt_fixed.proofs.tails.least_separation.Goals as goal

pub out_degree-k-end-requires : goal.out_degree-k-end-requires
out_degree-k-end-requires c = subst (λ (n : ℕ). c.loop-v.v < n) c.vertex_count-v-end.ensures.count c.loop-v-test.true

pub out_edge-requires-clause-vertex : goal.out_edge-requires-clause-vertex
out_edge-requires-clause-vertex c = subst (λ (n : ℕ). c.loop-v.v < n) c.vertex_count-v-end.ensures.count c.loop-v-test.true

pub out_edge-requires-clause-edge : goal.out_edge-requires-clause-edge
out_edge-requires-clause-edge c = subst (λ (n : ℕ). c.loop-k.k < n) c.out_degree-k-end.ensures c.loop-k-test.true
