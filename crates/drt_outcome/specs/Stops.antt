-- The outcome of a run that stopped before its answer was written.
use Rattle.std.specs.Prelude.{◌≡◌, ◌⊎◌, ℕ, [], ◌∷◌, Contains}
use Rattle.drt_outcome.specs.declared.outcome.Outcome.{Outcome}
use Rattle.drt_outcome.specs.declared.outcome.Trail.TheVariants as trails
use Rattle.drt_outcome.specs.declared.fault.Fault.{Fault}
use Rattle.drt_outcome.specs.declared.fault.Fault.TheVariants as faults
use Rattle.drt_outcome.specs.declared.stop.Stop.{Stop}
use Rattle.drt_outcome.specs.declared.stop.Stop.TheVariants as stops

-- An outcome with this status, without a trail and without a fault.
abbrev pub without_fault : ℕ → Outcome
without_fault status = record { status = status; trail = trails.Nothing; fault = faults.Nothing }

-- The status of an input with this fault: 4 for a task file, 9 where the evidence of a dossier breaks a rule, 10 for a dossier's text.
abbrev pub fault_status : Fault → ℕ
fault_status faults.Nothing = 4
fault_status (faults.File line code) = 4
fault_status (faults.Edge task edge past) = 4
fault_status (faults.Limit code) = 4
fault_status (faults.Probe add code) = 4
fault_status (faults.Rule number) = 9
fault_status (faults.Dossier line code) = 10

-- A refused input has one of these statuses.
abbrev pub IsRefusalStatus : ℕ → Type 0
IsRefusalStatus status = (status ≡ 4) ⊎ ((status ≡ 9) ⊎ (status ≡ 10))

-- Refused words have status 5, a failed read 6, a failed write 7, want of memory 8, and a refused input that of its fault.
abbrev pub outcome_of : Stop → Outcome
outcome_of stops.Words = without_fault 5
outcome_of stops.Read = without_fault 6
outcome_of stops.Write = without_fault 7
outcome_of stops.Memory = without_fault 8
outcome_of (stops.Refused fault) = record { status = fault_status fault; trail = trails.Nothing; fault = fault }

-- A run ends with one of these statuses.
abbrev pub IsStatus : ℕ → Type 0
IsStatus status = Contains (0 ∷ 1 ∷ 2 ∷ 3 ∷ 4 ∷ 5 ∷ 6 ∷ 7 ∷ 8 ∷ 9 ∷ 10 ∷ []) status
