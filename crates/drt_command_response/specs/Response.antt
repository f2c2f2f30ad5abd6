-- What is promised of `response`: what it writes, what it refuses, and with which status it ends.
use Rattle.std.specs.Prelude.{ℕ}
use Rattle.drt_model.specs.Contents.{Contents}
use Rattle.drt_command.specs.Rules.{Rules}
use Rattle.drt_command_files.specs.TaskFiles.{IsAccepted, IsFileFault, file_input}
use Rattle.drt_command_sp.specs.Sp.{SpEnds}
use Rattle.drt_command_response.specs.Besides.{Besides}
use Rattle.drt_command_response.specs.Verdict.{Verdict}

-- What is promised of `response` with this budget.
abbrev pub response_rules : ℕ → Rules
response_rules budget = record {
  input = file_input;
  makes = λ bytes made. Verdict bytes made × Besides budget bytes made;
  refuses = IsFileFault;
  faults = IsFileFault;
  ends = λ bytes status. (set : Contents) → IsAccepted bytes set → SpEnds set budget status;
}
