-- The cell isn't 0, and the vertices so far lead from it to the last one.
use Rattle.drt_wave.proofs.Tails.{IsTail, IsAtCell}
use Rattle.drt_wave.proofs.dense.DenseFront.walk.Given as goal

abbrev pub invariant-steps : goal.invariant-steps
invariant-steps l = IsAtCell l.self l.at l.left × IsTail l.self l.fn.vertex l.fn.offset l.at l.left l.walk.items

abbrev pub decreases-steps : goal.decreases-steps
decreases-steps l = l.left
