use Rattle.std.proofs.Common.{arith}
use Rattle.drt_wave.proofs.Kept.{next_vertex}
use Rattle.drt_wave.proofs.dense.DenseFront.add_vertex.Goals as goal

pub returns : goal.returns
returns c = next_vertex c.args.self.now c.args.vertex c.offsets.offset c.offsets.front.items (omega
    (arith, c.width-width.ensures, c.offsets-test.false, c.offsets.auto.offset-end)) c.offsets.invariant.1
