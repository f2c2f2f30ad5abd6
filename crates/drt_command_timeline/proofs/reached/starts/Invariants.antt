-- No release so far is of the task.
use Rattle.std.proofs.Common.{◌≢◌, ℕ, ◌<◌}
use Rattle.drt_timeline.specs.Text.{release_in}
use Rattle.drt_command_timeline.proofs.reached.starts.Given as goal

abbrev pub invariant-loop-release : goal.invariant-loop-release
invariant-loop-release l = (i : ℕ) → i < l.release-index → (release_in l.releases i).task ≢ l.task
