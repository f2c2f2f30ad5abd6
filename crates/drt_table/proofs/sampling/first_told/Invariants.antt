use Rattle.std.proofs.Common.{length}
use Rattle.drt_columns.specs.Seeking.{IsSeek, remaining}
use Rattle.drt_table.proofs.Telling.{IsTold}
use Rattle.drt_table.proofs.sampling.first_told.Given as goal

-- each node that dominates the label has its entry among those that the look hasn't come to
abbrev pub invariant-loop-number : goal.invariant-loop-number
invariant-loop-number g l = record {
  seek : IsSeek l.columns l.seek (g.L.Label.algebra.samples l.label) (remaining l.columns l.seek);
  told : IsTold g.L.Label.algebra l.label l.nodes (remaining l.columns l.seek);
}

abbrev pub decreases-loop-number : goal.decreases-loop-number
decreases-loop-number g l = length (remaining l.columns l.seek)
