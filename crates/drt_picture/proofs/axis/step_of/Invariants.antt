use Rattle.std.proofs.Common.{◌<◌}
use Rattle.drt_picture.proofs.axis.step_of.Given as goal

abbrev pub invariant-loop-digit : goal.invariant-loop-digit
invariant-loop-digit l = 0 < l.power
