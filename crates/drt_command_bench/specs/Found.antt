-- What a worker finds ahead.
use Rattle.std.specs.Prelude.{◌≡◌, ◌≢◌, [], IfSome}
use Rattle.drt_model.specs.Contents.{Contents}
use Rattle.drt_summary.specs.declared.summary.EdfVerdict.TheVariants as on_edf
use Rattle.drt_command_bench.specs.declared.ahead.Found.{Found}
use Rattle.drt_command_bench.specs.declared.command.EdfFinding.{EdfFinding}
use Rattle.drt_command_bench.specs.Bench.{AreCounts, EdfSays, FixedSays}

-- The verdict under EDF is that of the set, with its counts and its trail.
pub record IsEdfFinding (set : Contents) (found : EdfFinding) : Type 0 where
  pub says : EdfSays set.tasks found.verdict found.trail
  pub counts : found.verdict ≡ on_edf.Yes → AreCounts set.tasks found.kept
  pub no_counts : found.verdict ≢ on_edf.Yes → found.kept ≡ []

-- Each verdict that is found is that of the set.
pub record IsFound (set : Contents) (found : Found) : Type 0 where
  pub edf : IfSome found.edf (IsEdfFinding set)
  pub fixed : IfSome found.fixed (λ f. FixedSays set f.verdict f.trail)
