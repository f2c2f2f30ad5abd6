use Rattle.std.proofs.Common.{arith}
use Rattle.drt_edf_fronts.proofs.DemandWalks.{none_due}
use Rattle.drt_edf_fronts.proofs.walks.greatest_due.Goals as goal

pub returns : goal.returns
returns c = none_due c.args.graph.now c.args.front.now c.args.t c.entries.i (omega (arith, c.entries-test.false)) c.entries.invariant
