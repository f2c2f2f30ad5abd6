-- What is done and what is left of the sum are the whole.
use Rattle.std.proofs.Common.{◌≡◌, ◌+◌, ◌*◌, ◌≤◌, drop}
use Rattle.drt_horizon.specs.CycleTurns.{AreCycleTurns, turned}
use Rattle.drt_horizon.proofs.cycle_turns.work_within.Given as goal

abbrev pub invariant-cycle_turns : goal.invariant-cycle_turns
invariant-cycle_turns l = record {
  cycle_turns : AreCycleTurns (drop l.i l.cycle_turns);
  total : l.total + turned (drop l.i l.cycle_turns) l.t ≡ turned l.cycle_turns l.t;
  most : l.total ≤ l.i * 200000000000000000000000;
}
