use Rattle.std.proofs.Common.{◌-◌, ◌+◌}
use Rattle.std.specs.Prelude.{All}
use Rattle.drt_picture.specs.Layout.{IsAxisTick}
use Rattle.drt_picture.proofs.axis.push_ticks.Given as goal

abbrev pub invariant-loop-time : goal.invariant-loop-time
invariant-loop-time l = All (IsAxisTick l.scale) l.ticks.items

abbrev pub decreases-loop-time : goal.decreases-loop-time
decreases-loop-time l = l.end + 1 - l.time
