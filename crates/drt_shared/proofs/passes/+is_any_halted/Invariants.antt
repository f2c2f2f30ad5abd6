use Rattle.std.proofs.Common.{length}
use Rattle.drt_shared.proofs.passes.+is_any_halted.Given as goal

abbrev pub decreases-is_any_halted : goal.decreases-is_any_halted
decreases-is_any_halted g l = length l.passes.now
