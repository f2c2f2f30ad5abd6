use Rattle.drt_picture.proofs.PartLemmas.{IsSoFar}
use Rattle.drt_picture.proofs.moments.parts_of.Given as goal

abbrev pub invariant-loop-moment : goal.invariant-loop-moment
invariant-loop-moment l = IsSoFar l.moments l.from l.until l.moment-index l.start l.reached l.parts.items
