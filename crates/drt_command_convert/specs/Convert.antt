-- What is promised of `convert`.
use Rattle.std.specs.Prelude.{◌≡◌, ℕ, ◌≤◌, ◌<◌, ◌⊎◌, List, length}
use Rattle.drt_classic.specs.declared.classic.Classic.{Classic}
use Rattle.drt_classic.specs.ClassicReading.{HasClassicFault}
use Rattle.drt_outcome.specs.declared.fault.Fault.{Fault}
use Rattle.drt_outcome.specs.declared.fault.Fault.TheVariants.{Nothing, File, Edge, Limit, Probe, Rule, Dossier}
use Rattle.drt_command.specs.declared.report.Report.{Report}
use Rattle.drt_command.specs.Rules.{Rules}
use Rattle.drt_command_files.specs.TaskFiles.{file_input, most_bytes}
use Rattle.drt_command_convert.specs.Besides.{Besides}
use Rattle.drt_command_convert.specs.Verdict.{IsClassicFile, Verdict}

-- A file has this fault: code 23 at line 0 where it is too long, else the fault of its text.
abbrev pub IsClassicFault : List ℕ → Fault → Type 0
IsClassicFault bytes Nothing = ⊥
IsClassicFault bytes (File line code) = ((most_bytes < length bytes) × (line ≡ 0) × (code ≡ 23)) ⊎ ((length bytes ≤ most_bytes) × HasClassicFault bytes line code)
IsClassicFault bytes (Edge task edge past) = ⊥
IsClassicFault bytes (Limit code) = ⊥
IsClassicFault bytes (Probe add code) = ⊥
IsClassicFault bytes (Rule number) = ⊥
IsClassicFault bytes (Dossier line code) = ⊥

-- What a report of `convert` is: its verdict, and what stands besides.
abbrev pub Converts : List ℕ → Report → Type 0
Converts bytes made = Verdict bytes made × Besides bytes made

-- What is promised of `convert`.
abbrev pub convert_rules : Rules
convert_rules = record {
  input = file_input;
  makes = Converts;
  refuses = IsClassicFault;
  faults = IsClassicFault;
  ends = λ bytes status. (tasks : List Classic) → IsClassicFile bytes tasks → status ≡ 0;
}
