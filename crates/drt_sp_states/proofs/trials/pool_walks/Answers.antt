-- The pool has a walk of the next place.
use Rattle.std.proofs.Common.{◌<◌, length, sym, arith}
use Rattle.drt_sp_states.proofs.Pooled.{graphs_more}
use Rattle.drt_check_states.specs.Places.{graphs_at}
use Rattle.std.proofs.Common.{take}
use Rattle.drt_sp_states.proofs.trials.pool_walks.Goals as goal

pub loop-i-preserved : goal.loop-i-preserved
loop-i-preserved c =
    let lt : c.loop-i.i < length c.args.order.now = omega arith in
    rw (graphs_more c.args.graphs.now c.args.order.now c.loop-i.i lt, sym c.graph-graph.ensures.graph)
    (c.in_ok-pool.ensures (take c.loop-i.i (graphs_at c.args.graphs.now c.args.order.now)) c.loop-i.invariant)
