-- What is promised of a command.
use Rattle.std.specs.Prelude.{◌≡◌, ◌<◌, ℕ, List}
use Rattle.drt_outcome.specs.declared.fault.Fault.{Fault}
use Rattle.drt_command.specs.declared.report.Report.{Report}
use Rattle.drt_command.specs.declared.report.Unmade.{Unmade}
use Rattle.drt_command.specs.declared.report.Unmade.TheVariants.{Memory, Refused}
use Rattle.drt_command.specs.declared.input.Input.{Input}
use Rattle.drt_command.specs.Inputs.{IsLonger}
use Rattle.drt_outcome.specs.Stops.{fault_status}

-- What a command reads, what it makes of an input, with which fault it may refuse one, which fault an input has whatever a search finds, and
-- with which status it must end at one where nothing fails.
pub record Rules : Type 1 where
  pub input : Input
  pub makes : List ℕ → Report → Type 0
  pub refuses : List ℕ → Fault → Type 0
  pub faults : List ℕ → Fault → Type 0
  pub ends : List ℕ → ℕ → Type 0

-- These agree: of an input that has a fault nothing is made, and it isn't refused with another; an input that is too long is refused, and each
-- of the two ends has a status that the command must have.
pub record AreLawful (r : Rules) : Type 0 where
  pub low : (bytes : List ℕ) (made : Report) → r.makes bytes made → made.status < 4
  pub apart : (bytes : List ℕ) (made : Report) (f : Fault) → r.makes bytes made → r.faults bytes f → ⊥
  pub one_fault : (bytes : List ℕ) (f g : Fault) → r.refuses bytes f → r.faults bytes g → f ≡ g
  pub longer : (bytes : List ℕ) (f : Fault) → IsLonger r.input bytes f → r.refuses bytes f
  pub made_ends : (bytes : List ℕ) (made : Report) → r.makes bytes made → r.ends bytes made.status
  pub refused_ends : (bytes : List ℕ) (f : Fault) → r.refuses bytes f → r.ends bytes (fault_status f)

-- Why nothing is made of the bytes: they are refused. Want of memory is free.
abbrev pub IsUnmadeCause : (List ℕ → Fault → Type 0) → List ℕ → Unmade → Type 0
IsUnmadeCause refuses bytes Memory = Unit {0}
IsUnmadeCause refuses bytes (Refused fault) = refuses bytes fault
