use Rattle.std.proofs.Common.{take}
use Rattle.drt_steps.specs.Time.{AreChosen}
use Rattle.drt_bench.proofs.steps.are_chosen.Given as goal

abbrev pub invariant-loop-k : goal.invariant-loop-k
invariant-loop-k l = AreChosen l.deadline l.pool (take l.k-index l.chosen)
