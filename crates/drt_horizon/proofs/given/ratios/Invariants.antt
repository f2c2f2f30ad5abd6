-- Those so far are of the graphs so far.
use Rattle.std.proofs.Common.{take}
use Rattle.drt_horizon.specs.Given.{AreGiven}
use Rattle.drt_horizon.proofs.given.ratios.Given as goal

abbrev pub invariant-tasks : goal.invariant-tasks
invariant-tasks l = AreGiven (take l.i l.graphs) l.proofs.items
