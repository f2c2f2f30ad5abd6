-- What is promised of `sp`: what it writes, what it refuses, and with which status it ends.
use Rattle.std.specs.Prelude.{◌≡◌, ℕ, ◌⊎◌}
use Rattle.drt_model.specs.Contents.{Contents}
use Rattle.drt_model.specs.declared.jobs.Policy.TheVariants.{Fixed}
use Rattle.drt_model.specs.Schedulable.{Schedulable}
use Rattle.drt_command.specs.Rules.{Rules}
use Rattle.drt_sp.specs.Needs.{IsEnoughForTrees}
use Rattle.drt_command_files.specs.TaskFiles.{IsAccepted, IsFileFault, file_input}
use Rattle.drt_command_files.specs.Verdicts.{SetVerdict}
use Rattle.drt_command_sp.specs.Besides.{Besides}

-- The status of `sp` at an accepted set where nothing fails and the budget is enough for each search: 0 only where the set is schedulable
-- under fixed priorities, 1 only where it isn't, and one of these.
abbrev pub SpEnds : Contents → ℕ → ℕ → Type 0
SpEnds set budget status = IsEnoughForTrees set.tasks budget → ((status ≡ 0) × Schedulable set.tasks Fixed) ⊎ ((status ≡ 1) × ¬ Schedulable set.tasks Fixed)

-- What is promised of `sp` with this budget.
abbrev pub sp_rules : ℕ → Rules
sp_rules budget = record {
  input = file_input;
  makes = λ bytes made. SetVerdict Fixed bytes made × Besides budget bytes made;
  refuses = IsFileFault;
  faults = IsFileFault;
  ends = λ bytes status. (set : Contents) → IsAccepted bytes set → SpEnds set budget status;
}
