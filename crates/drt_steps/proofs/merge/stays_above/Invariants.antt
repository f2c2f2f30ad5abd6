use Rattle.std.proofs.Common.{◌+◌, ◌-◌, length}
use Rattle.drt_steps.proofs.Merging.{Covering}
use Rattle.drt_steps.proofs.merge.stays_above.Given as goal

abbrev pub invariant-loop-j : goal.invariant-loop-j
invariant-loop-j l = Covering l.own_base l.other_base l.own l.other l.i l.j l.high l.low

abbrev pub decreases-loop-j : goal.decreases-loop-j
decreases-loop-j l = (length l.own - l.i) + (length l.other - l.j)
