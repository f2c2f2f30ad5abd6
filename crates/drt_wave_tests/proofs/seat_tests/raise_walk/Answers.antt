use Rattle.std.proofs.Common.{arith}
use Rattle.drt_wave_tests.proofs.Reaching.{one_edge}
use Rattle.drt_wave_tests.proofs.seat_tests.raise_walk.Goals as goal

pub raise-requires-clause-work : goal.raise-requires-clause-work
raise-requires-clause-work c =
    let t = c.args.table.now in
    one_edge t.plan t.planned c.args.from c.args.number _ _ _ (omega arith) (omega arith) c.out_edge-edge.ensures c.vertex-first.ensures c.vertex-last.ensures (omega arith) (omega arith)
