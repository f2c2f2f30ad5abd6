use Rattle.std.proofs.Common.{◌≡◌, take, map}
use Rattle.drt_picture.specs.Layout.{bar_of}
use Rattle.drt_picture.proofs.bars.bars_of.Given as goal

abbrev pub invariant-loop-span : goal.invariant-loop-span
invariant-loop-span l = l.bars.items ≡ map (bar_of l.scale l.releases) (take l.span-index l.spans)
