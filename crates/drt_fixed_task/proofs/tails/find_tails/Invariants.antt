-- The tails so far.
use Rattle.std.proofs.Common.{take}
use Rattle.drt_check_states.specs.Places.{graphs_at}
use Rattle.drt_fixed_task.specs.Tails.{AreTails}
use Rattle.drt_fixed_task.proofs.tails.find_tails.Given as goal

abbrev pub invariant-tasks : goal.invariant-tasks
invariant-tasks l = AreTails l.bound (graphs_at l.graphs (take l.i l.tasks)) l.tails.items
