use Rattle.std.proofs.Common.{◌+◌, ◌-◌, length}
use Rattle.drt_steps.proofs.Merging.{Merging}
use Rattle.drt_steps.proofs.merge.merged.Given as goal

abbrev pub invariant-loop-i : goal.invariant-loop-i
invariant-loop-i l = Merging l.own_base l.other_base l.own l.other l.i l.j l.first l.second l.jumps.items

abbrev pub decreases-loop-i : goal.decreases-loop-i
decreases-loop-i l = (length l.own - l.i) + (length l.other - l.j)
