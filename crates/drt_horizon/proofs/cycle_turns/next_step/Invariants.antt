-- The first step time of the turns that were taken.
use Rattle.std.proofs.Common.{◌+◌, ◌≤◌, take, drop}
use Rattle.drt_horizon.specs.CycleTurns.{AreCycleTurns, IsNextStepTime}
use Rattle.drt_horizon.proofs.cycle_turns.next_step.Given as goal

abbrev pub invariant-cycle_turns : goal.invariant-cycle_turns
invariant-cycle_turns l = record {
  cycle_turns : AreCycleTurns (drop l.i l.cycle_turns);
  next : IsNextStepTime (take l.i l.cycle_turns) l.t l.next;
  near : l.next ≤ l.t + 100000000;
}
