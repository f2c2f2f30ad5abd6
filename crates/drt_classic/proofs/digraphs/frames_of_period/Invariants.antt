use Rattle.std.proofs.Common.{◌≡◌, take}
use Rattle.drt_classic.specs.Classics.{frames_of_period}
use Rattle.drt_classic.proofs.digraphs.frames_of_period.Given as goal

abbrev pub invariant-loop-wcet : goal.invariant-loop-wcet
invariant-loop-wcet l = l.frames.items ≡ frames_of_period l.deadline l.period (take l.wcet-index l.wcets)
