use Rattle.std.proofs.Common.{arith}
use Rattle.drt_io.proofs.Growing.{grows_rest}
use Rattle.drt_io.proofs.writing.write_all.Goals as goal

pub loop-at-preserved : goal.loop-at-preserved
loop-at-preserved g c = record {
  inside = omega (arith, c.in-Ok.ensures.bound, c.loop-at-test.true);
  grown = grows_rest (g.K.Sink.held c.args.sink.now) (g.K.Sink.held c.loop-at.sink) (g.K.Sink.held c.write.new.self) c.args.bytes.now c.loop-at.at c.in-Ok.count
      c.loop-at.invariant.grown c.in-Ok.ensures.bytes;
  later = omega (arith, c.loop-at.invariant.later, c.in-Ok.ensures.cause.later);
}
