use Rattle.drt_columns.specs.Slots.{IsMask}
use Rattle.drt_columns.proofs.block.Block.mask.Given as goal

abbrev pub invariant-loop-k : goal.invariant-loop-k
invariant-loop-k l = IsMask l.self l.samples l.mask
