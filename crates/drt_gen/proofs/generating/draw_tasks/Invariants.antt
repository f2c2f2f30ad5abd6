-- The tasks so far, each by its 61 draws.
use Rattle.std.proofs.Common.{◌≡◌, ◌*◌}
use Rattle.drt_gen.specs.Draws.{state_after}
use Rattle.drt_gen.proofs.Made.{tasks_to}
use Rattle.drt_gen.proofs.generating.draw_tasks.Given as goal

abbrev pub invariant-tasks : goal.invariant-tasks
invariant-tasks l = record {
  made : l.tasks.items ≡ tasks_to l.number l.i;
  state : l.draws ≡ state_after l.number (61 * l.i);
}
