use Rattle.std.proofs.Common.{take}
use Rattle.drt_model.specs.Constrained.{AreConstrained}
use Rattle.drt_graph.proofs.checking.first_past.Given as goal

abbrev pub invariant-loop-i : goal.invariant-loop-i
invariant-loop-i l = AreConstrained (take l.i l.tasks)
