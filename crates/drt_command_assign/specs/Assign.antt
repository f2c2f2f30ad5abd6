-- What is promised of `assign`.
use Rattle.std.specs.Prelude.{◌≡◌, ℕ, ◌⊎◌}
use Rattle.drt_model.specs.Contents.{Contents}
use Rattle.drt_priorities.specs.Priorities.{OrderExists}
use Rattle.drt_assign.specs.Needs.{IsEnoughForOrders}
use Rattle.drt_command.specs.Rules.{Rules}
use Rattle.drt_command_files.specs.TaskFiles.{IsAccepted, IsFileFault, file_input}
use Rattle.drt_command_assign.specs.Besides.{Besides}
use Rattle.drt_command_assign.specs.Verdict.{Verdict}

-- The status of `assign` at an accepted set where nothing fails and the budget is enough for each search: 0 only where some priorities
-- make the set schedulable, 1 only where none do, and one of these.
abbrev pub AssignEnds : Contents → ℕ → ℕ → Type 0
AssignEnds set budget status = IsEnoughForOrders set.tasks budget → ((status ≡ 0) × OrderExists set.tasks) ⊎ ((status ≡ 1) × ¬ OrderExists set.tasks)

-- What is promised of `assign` with this budget.
abbrev pub assign_rules : ℕ → Rules
assign_rules budget = record {
  input = file_input;
  makes = λ bytes made. Verdict bytes made × Besides budget bytes made;
  refuses = IsFileFault;
  faults = IsFileFault;
  ends = λ bytes status. (set : Contents) → IsAccepted bytes set → AssignEnds set budget status;
}
