-- The walks so far.
use Rattle.std.proofs.Common.{◌≡◌, ℕ, ◌<◌, length}
use Rattle.drt_releases.specs.Walks.{walk_at}
use Rattle.drt_response.specs.Placed.{job_walk_in_priority_order}
use Rattle.drt_response.proofs.reaching.job_walks.Given as goal

abbrev pub invariant-tasks : goal.invariant-tasks
invariant-tasks l = record {
  count : length l.chosen.items ≡ l.k;
  each : (k : ℕ) → k < l.k → walk_at l.chosen.items k ≡ job_walk_in_priority_order l.set.tasks l.walks l.job.at.task l.job.at.vertex l.job.finish k;
}
