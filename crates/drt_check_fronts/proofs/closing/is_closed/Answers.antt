use Rattle.std.proofs.Common.{◌≡◌, true}
use Rattle.drt_check_fronts.proofs.Closings.{closed_more}
use Rattle.drt_check_fronts.proofs.closing.is_closed.Goals as goal

pub loop-i-preserved : goal.loop-i-preserved
loop-i-preserved c =
    let r : c.is_extended.result ≡ true = cc in
    closed_more c.args.bound c.args.graph.now c.args.front.now c.loop-i.i _ c.loop-i-test.true (c.is_extended.ensures.0 r) c.loop-i.invariant
