use Rattle.std.proofs.Common.{take}
use Rattle.drt_check_states.specs.Places.{graphs_at}
use Rattle.drt_sp_states.specs.Trials.{ArePooled}
use Rattle.drt_sp_states.proofs.trials.pool_walks.Given as goal

abbrev pub invariant-loop-i : goal.invariant-loop-i
invariant-loop-i l = ArePooled l.deadline (take l.i (graphs_at l.graphs l.order)) l.pool
