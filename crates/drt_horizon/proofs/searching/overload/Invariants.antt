-- The turns so far and those of the tasks that are left are all turns.
use Rattle.std.proofs.Common.{◌≡◌, ◌≤◌, ◌++◌, length, take, drop}
use Rattle.drt_horizon.specs.Given.{AreGiven}
use Rattle.drt_horizon.specs.CycleTurns.{cycle_turns_of}
use Rattle.drt_horizon.proofs.searching.overload.Given as goal

abbrev pub invariant-tasks : goal.invariant-tasks
invariant-tasks l = record {
  given : AreGiven (drop l.i l.graphs) (drop l.i l.proofs);
  built : take l.count l.cycle_turns ++ cycle_turns_of (drop l.i l.graphs) (drop l.i l.proofs) ≡ cycle_turns_of l.graphs l.proofs;
  few : l.count ≤ l.i;
  size : length l.cycle_turns ≡ 32;
}
