-- When bytes are the text of a dossier, and where they stop being a prefix of one.
use Rattle.std.specs.Prelude.{◌≡◌, ℕ, ◌<◌, ◌≤◌, ◌⊎◌, List, ◌++◌, Result, Ok, Err}
use Rattle.drt_file.specs.trusted.CanonicalPrefix.{line_count, first_lines}
use Rattle.drt_claims.specs.Statement.{IsStated, Statement}
use Rattle.drt_evidence.specs.Text.{text}
use Rattle.drt_claims.specs.declared.evidence.Dossier.{Dossier}
use Rattle.drt_evidence.specs.declared.fault.DossierError.{DossierError}
use Rattle.drt_evidence.specs.declared.fault.DossierError.TheVariants as errors

-- The bytes are the text of a dossier that states it.
pub record IsDossierText (s : Statement) (bytes : List ℕ) : Type 0 where
  pub stated : IsStated s
  pub is : bytes ≡ text s

-- The bytes are a prefix of the text of a dossier.
abbrev pub IsDossierPrefix : List ℕ → Type 0
IsDossierPrefix bytes = (s : Statement) × (rest : List ℕ) × IsDossierText s (bytes ++ rest)

-- A whole dossier stands at the front of the bytes.
abbrev pub HoldsDossier : List ℕ → Type 0
HoldsDossier bytes = (s : Statement) × (front rest : List ℕ) × IsDossierText s front × (bytes ≡ front ++ rest)

-- The first n lines, each with its LF, are a prefix of no dossier's text, or there are fewer than n lines that end with LF while no
-- whole dossier stands before.
abbrev pub IsDossierFaultyBy : List ℕ → ℕ → Type 0
IsDossierFaultyBy bytes n = ((line_count bytes < n) × ¬ HoldsDossier bytes) ⊎ (¬ IsDossierPrefix (first_lines n bytes))

-- The code of a fault at a line: 3 where bytes follow a whole dossier; else 2 where the line is missing or doesn't end with LF, and 1
-- where it does and can't stand there.
abbrev pub IsCode : List ℕ → ℕ → ℕ → Type 0
IsCode bytes line code =
    ((code ≡ 3) × HoldsDossier bytes)
    ⊎ (((code ≡ 2) × (line_count bytes < line) × ¬ HoldsDossier bytes) ⊎ ((code ≡ 1) × (line ≤ line_count bytes) × ¬ HoldsDossier bytes))

-- The bytes stop being a dossier's text at the least n by which they are faulty, with the code of that line.
pub record HasDossierFault (bytes : List ℕ) (line code : ℕ) : Type 0 where
  pub here : IsDossierFaultyBy bytes line
  pub least : (n : ℕ) → n < line → ¬ IsDossierFaultyBy bytes n
  pub is_code : IsCode bytes line code

-- Why there is no dossier: the bytes are the text of none and stop being one there, or memory ran out.
abbrev pub IsDossierCause : List ℕ → DossierError → Type 0
IsDossierCause bytes (errors.Fault fault) = ((s : Statement) → ¬ IsDossierText s bytes) × HasDossierFault bytes fault.line fault.code
IsDossierCause bytes errors.Memory = Unit {0}

-- A call gave what the statement says, unless memory ran out.
abbrev pub GivesStatement : Result Dossier DossierError → Statement → Type 0
GivesStatement (Ok dossier) s = record { policy = dossier.policy; set = dossier.set; evidence = dossier.evidence } ≡ s
GivesStatement (Err e) s = e ≡ errors.Memory
