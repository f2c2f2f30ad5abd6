-- The fronts so far are those of the graphs so far.
use Rattle.std.proofs.Common.{take}
use Rattle.drt_rates.specs.Demands.{AreFronts}
use Rattle.drt_edf_tests.proofs.horizon_tests.fronts.Given as goal

abbrev pub invariant-tasks : goal.invariant-tasks
invariant-tasks l = AreFronts l.bound (take l.i l.graphs) l.fronts.items
