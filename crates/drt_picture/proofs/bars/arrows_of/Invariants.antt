use Rattle.std.proofs.Common.{◌≡◌, take, map}
use Rattle.drt_picture.specs.Layout.{arrow_of}
use Rattle.drt_picture.proofs.bars.arrows_of.Given as goal

abbrev pub invariant-loop-event : goal.invariant-loop-event
invariant-loop-event l = l.arrows.items ≡ map (arrow_of l.scale l.releases) (take l.event-index l.events)
