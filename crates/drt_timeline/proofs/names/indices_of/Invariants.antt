-- The counts of the tasks so far, and the indices of the releases so far.
use Rattle.std.proofs.Common.{◌≡◌, ℕ, ◌<◌, length, get_or}
use Rattle.drt_timeline.specs.Text.{release_in}
use Rattle.drt_timeline.proofs.NameLemmas.{count_of}
use Rattle.drt_timeline.proofs.names.indices_of.Given as goal

abbrev pub invariant-loop-release : goal.invariant-loop-release
invariant-loop-release l = record {
  counted : length l.counts.items ≡ length l.tasks;
  counts : (t : ℕ) → t < length l.counts.items → get_or l.counts.items t 0 ≡ count_of l.releases t l.release-index;
  as_many : length l.indices.items ≡ l.release-index;
  each : (j : ℕ) → j < l.release-index → get_or l.indices.items j 0 ≡ count_of l.releases (release_in l.releases j).task j;
}
