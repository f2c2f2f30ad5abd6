-- The walks so far and those of the tasks that are left are all.
use Rattle.std.proofs.Common.{◌≡◌, ◌++◌, drop}
use Rattle.drt_horizon.specs.Given.{AreGiven}
use Rattle.drt_edf.specs.Turns.{turns_within}
use Rattle.drt_edf.proofs.turns.turns.Given as goal

abbrev pub invariant-tasks : goal.invariant-tasks
invariant-tasks l = record {
  given : AreGiven (drop l.i l.graphs) (drop l.i l.proofs);
  built : l.walks.items ++ turns_within (drop l.i l.graphs) (drop l.i l.proofs) l.t ≡ turns_within l.graphs l.proofs l.t;
}
