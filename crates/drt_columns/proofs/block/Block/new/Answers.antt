use Rattle.std.proofs.Common.{refl, lit≤}
use Rattle.drt_columns.proofs.Slots.{new_columns}
use Rattle.drt_columns.proofs.block.Block.new.Goals as goal

pub invariant_of-result : goal.invariant_of-result
invariant_of-result c = (lit≤ tt, refl, new_columns)
