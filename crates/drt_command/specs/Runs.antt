-- What a run of a command did, at each of its ends.
use Rattle.std.specs.Prelude.{◌≡◌, ◌≢◌, ◌≤◌, ◌<◌, ℕ, ◌⊎◌, List, Option, Result, Ok, Err}
use Rattle.drt_io.specs.Writing.{GrowsBy, GrowsByPrefix}
use Rattle.drt_outcome.specs.declared.fault.Fault.{Fault}
use Rattle.drt_outcome.specs.declared.fault.Fault.TheVariants as faults
use Rattle.drt_outcome.specs.declared.outcome.Outcome.{Outcome}
use Rattle.drt_outcome.specs.declared.outcome.Trail.{Trail}
use Rattle.drt_outcome.specs.declared.outcome.Trail.TheVariants as trails
use Rattle.drt_command.specs.declared.report.Report.{Report}
use Rattle.drt_command.specs.declared.report.Unmade.{Unmade}
use Rattle.drt_command.specs.declared.report.Unmade.TheVariants as unmade
use Rattle.drt_command.specs.declared.input.Input.{Input}
use Rattle.drt_outcome.specs.declared.stop.Stop.{Stop}
use Rattle.drt_outcome.specs.declared.stop.Stop.TheVariants.{Words, Read, Write, Memory, Refused}
use Rattle.drt_command.specs.Inputs.{AtInput, IsLonger}
use Rattle.drt_command.specs.Rules.{Rules}
use Rattle.drt_outcome.specs.Stops.{IsRefusalStatus, IsStatus, fault_status, outcome_of}

-- The command made a text of the bytes, with this status and this trail, and what the sink holds grew by exactly this text.
pub record Writes (r : Rules) (bytes : List ℕ) (status : ℕ) (trail : Trail) (old new : Option (List ℕ)) : Type 0 where
  pub text : List ℕ
  pub makes : r.makes bytes (record { status = status; text = text; trail = trail })
  pub written : GrowsBy old new text

-- The command made a text of the bytes, and what the sink holds grew by a prefix of it.
pub record IsCutShort (r : Rules) (bytes : List ℕ) (old new : Option (List ℕ)) : Type 0 where
  pub made : Report
  pub makes : r.makes bytes made
  pub written : GrowsByPrefix old new made.text

-- Memory ran out, or the status is one that the command must end with; and where the input has a fault, that one is told with its status.
pub record IsCompleteRun (r : Rules) (bytes : List ℕ) (status : ℕ) (fault : Fault) : Type 0 where
  pub ends : (status ≡ 8) ⊎ r.ends bytes status
  pub refused : (f : Fault) → r.faults bytes f → (status ≡ 8) ⊎ ((status ≡ fault_status f) × (fault ≡ f))

-- Why the input isn't had whole: a read failed, or it is too long. Want of memory is free.
abbrev pub IsReadCause : Type 0 → Input → Option (List ℕ) → Stop → Type 0
IsReadCause read_failed input left Words = ⊥
IsReadCause read_failed input left Read = read_failed
IsReadCause read_failed input left Write = ⊥
IsReadCause read_failed input left Memory = Unit {0}
IsReadCause read_failed input left (Refused fault) = AtInput input left (λ bytes. IsLonger input bytes fault)

-- Why a command writes no text: a read or a write failed, or it refuses the input. Want of memory is free.
abbrev pub IsStopCause : Rules → Type 0 → Type 0 → Option (List ℕ) → Stop → Type 0
IsStopCause r read_failed write_failed left Words = ⊥
IsStopCause r read_failed write_failed left Read = read_failed
IsStopCause r read_failed write_failed left Write = write_failed
IsStopCause r read_failed write_failed left Memory = Unit {0}
IsStopCause r read_failed write_failed left (Refused fault) = AtInput r.input left (λ bytes. r.refuses bytes fault)

-- Why nothing was made is why the run stops.
abbrev pub stop_of : Unmade → Stop
stop_of unmade.Memory = Memory
stop_of (unmade.Refused fault) = Refused fault

-- What was made was written, or the write failed behind a prefix of its text; where nothing was made the outcome tells why.
abbrev pub HasEnded : Result Report Unmade → Option (List ℕ) → Option (List ℕ) → Type 0 → Outcome → Type 0
HasEnded (Ok made) old new write_failed o =
    (GrowsBy old new made.text × (o ≡ record { status = made.status; trail = made.trail; fault = faults.Nothing })) ⊎ (write_failed × GrowsByPrefix old new made.text × (o ≡ outcome_of Write))
HasEnded (Err e) old new write_failed o = o ≡ outcome_of (stop_of e)

-- A run of a command with these rules, from what the source told and what the sink held, to what the sink holds and the outcome.
pub record IsRun (r : Rules) (left : Option (List ℕ)) (read_failed write_failed : Type 0) (old new : Option (List ℕ)) (o : Outcome) : Type 0 where
  pub done : o.status < 4 → AtInput r.input left (λ bytes. Writes r bytes o.status o.trail old new)
  pub refused : IsRefusalStatus o.status → AtInput r.input left (λ bytes. r.refuses bytes o.fault)
  pub words : o.status ≢ 5
  pub read : o.status ≡ 6 → read_failed
  pub write : o.status ≡ 7 → write_failed
  pub known : IsStatus o.status
  pub cut : o.status ≡ 7 → AtInput r.input left (λ bytes. IsCutShort r bytes old new)
  pub complete : ¬ read_failed → ¬ write_failed → AtInput r.input left (λ bytes. IsCompleteRun r bytes o.status o.fault)
  pub fault : ¬ IsRefusalStatus o.status → o.fault ≡ faults.Nothing
  pub kind : IsRefusalStatus o.status → o.status ≡ fault_status o.fault
  pub trail : 4 ≤ o.status → o.trail ≡ trails.Nothing
