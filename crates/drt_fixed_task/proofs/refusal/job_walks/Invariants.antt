-- The walks so far, and the place of the next one.
use Rattle.std.proofs.Common.{◌≡◌, ℕ, ◌<◌, length}
use Rattle.drt_busy.specs.Choice.{task_at}
use Rattle.drt_releases.specs.Walks.{walk_at}
use Rattle.drt_fixed_task.specs.Higher.{higher_before, job_walk_in_file_order}
use Rattle.drt_fixed_task.proofs.refusal.job_walks.Given as goal

abbrev pub invariant-tasks : goal.invariant-tasks
invariant-tasks l = record {
  place : l.place ≡ length (higher_before l.given.set.now.tasks (task_at l.given.set.now.tasks l.given.task).priority l.k);
  count : length l.chosen.items ≡ l.k;
  each : (i : ℕ) → i < l.k → walk_at l.chosen.items i ≡ job_walk_in_file_order l.given.set.now.tasks l.cut.walks.now l.given.task l.cut.vertex l.cut.end i;
}
