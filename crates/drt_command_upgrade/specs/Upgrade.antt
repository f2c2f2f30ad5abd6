-- `upgrade`: what it writes, what it refuses, and with which status it ends.
use Rattle.std.specs.Prelude.{◌≡◌, ℕ, List}
use Rattle.drt_model.specs.Contents.{Contents}
use Rattle.drt_file.specs.trusted.Canonical.{canonical}
use Rattle.drt_outcome.specs.declared.outcome.Trail.TheVariants as trails
use Rattle.drt_command.specs.declared.report.Report.{Report}
use Rattle.drt_command.specs.Rules.{Rules}
use Rattle.drt_command_files.specs.TaskFiles.{IsAccepted, IsFileFault, file_input}

-- `upgrade`: the bytes are an accepted file, and the text is the canonical one of the same tasks as a set of version 2.
pub record Upgrades (bytes : List ℕ) (made : Report) : Type 0 where
  pub set : Contents
  pub accepted : IsAccepted bytes set
  pub status : made.status ≡ 0
  pub text : made.text ≡ canonical (record { version = 2; tasks = set.tasks })
  pub trail : made.trail ≡ trails.Nothing

-- What is promised of `upgrade`.
abbrev pub upgrade_rules : Rules
upgrade_rules = record {
  input = file_input;
  makes = Upgrades;
  refuses = IsFileFault;
  faults = IsFileFault;
  ends = λ bytes status. (set : Contents) → IsAccepted bytes set → status ≡ 0;
}
