-- The walk is cut so far.
use Rattle.std.proofs.Common.{drop}
use Rattle.drt_releases.proofs.Cuts.{IsCut}
use Rattle.drt_releases.proofs.cutting.cut_walk.Given as goal

abbrev pub invariant-steps : goal.invariant-steps
invariant-steps l = IsCut l.graph l.end l.walk l.kept.items l.vertex l.offset (drop l.i l.walk)
