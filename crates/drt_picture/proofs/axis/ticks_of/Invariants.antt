use Rattle.std.specs.Prelude.{All}
use Rattle.drt_picture.specs.Layout.{IsAxisTick}
use Rattle.drt_picture.proofs.axis.ticks_of.Given as goal

abbrev pub invariant-loop-part : goal.invariant-loop-part
invariant-loop-part l = All (IsAxisTick l.scale) l.ticks.items
