-- The walks so far.
use Rattle.std.proofs.Common.{◌≡◌, ℕ, ◌<◌, length}
use Rattle.drt_busy.specs.WalkReleases.{with_job}
use Rattle.drt_sp.specs.Choices.{chosen}
use Rattle.drt_releases.specs.Walks.{walk_at}
use Rattle.drt_sp.proofs.walks.job_walks.Given as goal

abbrev pub invariant-tasks : goal.invariant-tasks
invariant-tasks l = record {
  count : length l.walks.items ≡ l.k;
  each : (k : ℕ) → k < l.k → walk_at l.walks.items k ≡ with_job l.set.tasks (chosen l.set.tasks l.forest l.end l.order l.shown.tuple) l.shown.task l.shown.vertex k;
}
