use Rattle.std.proofs.Common.{◌≡◌, ◌<◌, length, arith, Some, refl, rules}
use Rattle.drt_model.specs.Walk.{sep, wcet}
use Rattle.drt_graph.proofs.Edges.{sep_of_edge}
use Rattle.drt_ratio.proofs.Offers.{raised_below, raise_with, loss_small}
use Rattle.drt_ratio.proofs.levels.offer.Goals as goal

pub overflow_add-high : goal.overflow_add-high
overflow_add-high c =
    let sound = c.keep_limits.ensures in
    let to = sound.to c.args.u c.args.k c.requires.vertex c.requires.edge in
    let below = raised_below c.args.graph.now c.args.a c.args.b _ c.args.low.now c.args.high.now sound c.requires.b_small c.requires.raised c.requires.low_small _ to in
    let loss = loss_small c.args.graph.now c.args.a c.args.u c.args.k sound c.requires.a_small c.requires.vertex c.requires.edge in
    rw c.out_edge-edge.ensures (omega (arith, below, loss))

pub returns-then-high-v-clause-raised : goal.returns-then-high-v-clause-raised
returns-then-high-v-clause-raised c =
    let sound = c.keep_limits.ensures in
    let few = sound.few in
    let to = sound.to c.args.u c.args.k c.requires.vertex c.requires.edge in
    let edge = sep_of_edge c.args.graph.now sound c.args.u c.args.k c.requires.vertex c.requires.edge in
    let is : sep c.args.graph.now c.args.u c.out_edge-edge.result.now.to ≡ Some c.out_edge-edge.result.now.sep = rw c.out_edge-edge.ensures edge in
    let e : c.vertex.result.now.wcet ≡ wcet c.args.graph.now c.out_edge-edge.result.now.to = rw c.vertex.ensures refl in
    let l : c.out_edge-edge.result.now.to < length c.args.high.now.heights = rw c.out_edge-edge.ensures (search rules) in
    let m : c.out_edge-edge.result.now.to < length c.args.high.now.from = rw c.out_edge-edge.ensures (search rules) in
    raise_with c.args.graph.now c.args.a c.args.b c.args.low.now c.args.high.now c.args.u _ _ _ c.requires.raised is e l m (omega arith)
