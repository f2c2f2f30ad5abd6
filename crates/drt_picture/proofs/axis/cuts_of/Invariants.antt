use Rattle.std.specs.Prelude.{All}
use Rattle.drt_picture.specs.Layout.{IsCutMark}
use Rattle.drt_picture.proofs.axis.cuts_of.Given as goal

abbrev pub invariant-loop-i : goal.invariant-loop-i
invariant-loop-i l = All (IsCutMark l.scale) l.cuts.items
