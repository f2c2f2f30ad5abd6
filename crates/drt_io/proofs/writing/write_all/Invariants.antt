use Rattle.std.proofs.Common.{length, ◌-◌, ◌≤◌, take}
use Rattle.drt_io.specs.Writing.{GrowsBy}
use Rattle.drt_io.proofs.writing.write_all.Given as goal

abbrev pub invariant-loop-at : goal.invariant-loop-at
invariant-loop-at g l = record {
  inside : l.at ≤ length l.bytes;
  grown : GrowsBy (g.K.Sink.held l.initial.sink) (g.K.Sink.held l.sink) (take l.at l.bytes);
  later : g.K.Sink.faults l.initial.sink ≤ g.K.Sink.faults l.sink;
}

abbrev pub decreases-loop-at : goal.decreases-loop-at
decreases-loop-at g l = length l.bytes - l.at
