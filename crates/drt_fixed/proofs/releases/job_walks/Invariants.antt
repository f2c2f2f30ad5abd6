-- The walks so far.
use Rattle.std.proofs.Common.{◌≡◌, ℕ, ◌<◌, length}
use Rattle.drt_releases.specs.Walks.{walk_at}
use Rattle.drt_fixed.specs.Searching.{IsBeside}
use Rattle.drt_fixed.proofs.releases.job_walks.Given as goal

abbrev pub invariant-tasks : goal.invariant-tasks
invariant-tasks l = record {
  count : length l.chosen.items ≡ l.k;
  each : (k : ℕ) → k < l.k → IsBeside l.given.set.now.tasks l.vertex.at.task l.vertex.at.vertex k (walk_at l.chosen.items k);
}
