use Rattle.std.proofs.Common.{◌-◌, length}
use Rattle.drt_columns.proofs.Passing.{HasPassed}
use Rattle.drt_columns.proofs.columns.Columns.next.Given as goal

abbrev pub invariant-loop-seek : goal.invariant-loop-seek
invariant-loop-seek l = HasPassed l.self l.initial.seek l.seek

abbrev pub decreases-loop-seek : goal.decreases-loop-seek
decreases-loop-seek l = length l.self.blocks - l.seek.block
