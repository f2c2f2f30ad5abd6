-- What is promised of `check`: what it says of a dossier, what it refuses, and with which status it ends.
use Rattle.std.specs.Prelude.{◌≡◌, ℕ, ◌≤◌, ◌<◌, ◌⊎◌, List, [], codes, length}
use Rattle.drt_model.specs.Numbers.{most_text}
use Rattle.drt_evidence.specs.Reading.{HasDossierFault, IsDossierText}
use Rattle.drt_claims.specs.Statement.{Statement}
use Rattle.drt_check.specs.Judging.{IsStatementJudged, IsSoundJudgement}
use Rattle.drt_check.specs.declared.judgement.Judgement.{Judgement}
use Rattle.drt_check.specs.declared.judgement.Judgement.TheVariants as judgements
use Rattle.drt_outcome.specs.declared.fault.Fault.{Fault}
use Rattle.drt_outcome.specs.declared.fault.Fault.TheVariants.{Nothing, File, Edge, Limit, Probe, Rule, Dossier}
use Rattle.drt_outcome.specs.declared.outcome.Trail.TheVariants as trails
use Rattle.drt_command.specs.declared.input.Input.{Input}
use Rattle.drt_command.specs.declared.input.Input.TheVariants.{AtMost}
use Rattle.drt_command.specs.declared.report.Report.{Report}
use Rattle.drt_command.specs.Rules.{Rules}
use Rattle.drt_command_check.specs.Verdict.{Verdict}

-- The line of each judgement; rejected evidence has none.
abbrev pub verdict : Judgement → List ℕ
verdict judgements.Schedulable = codes "schedulable\n"
verdict judgements.Unschedulable = codes "unschedulable\n"
verdict judgements.UtilisationOne = codes "utilisation-one\n"
verdict judgements.NothingToCheck = codes "nothing-to-check\n"
verdict (judgements.Rejected number) = []

-- The status of each judgement.
abbrev pub judged_status : Judgement → ℕ
judged_status judgements.Schedulable = 0
judged_status judgements.Unschedulable = 1
judged_status judgements.UtilisationOne = 2
judged_status judgements.NothingToCheck = 3
judged_status (judgements.Rejected number) = 9

-- The bytes are the text of this dossier and of no other, and aren't too many.
pub record IsDossier (bytes : List ℕ) (s : Statement) : Type 0 where
  pub small : length bytes ≤ most_text
  pub is : IsDossierText s bytes
  pub only : (t : Statement) → IsDossierText t bytes → t ≡ s

-- The bytes are a dossier with this judgement, which means what it says whoever made the dossier.
pub record IsJudgementOf (bytes : List ℕ) (judgement : Judgement) : Type 0 where
  pub statement : Statement
  pub dossier : IsDossier bytes statement
  pub judged : IsStatementJudged statement judgement
  pub sound : IsSoundJudgement statement judgement

-- What stands besides the verdict: the bytes are the text of a dossier, and the status and the text are those of its judgement.
pub record Checks (bytes : List ℕ) (made : Report) : Type 0 where
  pub judgement : Judgement
  pub of : IsJudgementOf bytes judgement
  pub status_is : made.status ≡ judged_status judgement
  pub not_rejected : made.status < 4
  pub text_is : made.text ≡ verdict judgement
  pub trail : made.trail ≡ trails.Nothing

-- The bytes are a dossier that is rejected with this number.
pub record IsRejected (bytes : List ℕ) (number : ℕ) : Type 0 where
  pub statement : Statement
  pub dossier : IsDossier bytes statement
  pub judged : IsStatementJudged statement (judgements.Rejected number)

-- The bytes are no dossier's text, and stop being one at this line with this code.
pub record IsNoDossier (bytes : List ℕ) (line code : ℕ) : Type 0 where
  pub small : length bytes ≤ most_text
  pub none : (s : Statement) → ¬ IsDossierText s bytes
  pub fault : HasDossierFault bytes line code

-- A dossier has this fault: code 4 at line 0 where it is too long, else the fault of its text, else the number with which it is
-- rejected.
abbrev pub IsDossierFault : List ℕ → Fault → Type 0
IsDossierFault bytes Nothing = ⊥
IsDossierFault bytes (File line code) = ⊥
IsDossierFault bytes (Edge task edge past) = ⊥
IsDossierFault bytes (Limit code) = ⊥
IsDossierFault bytes (Probe add code) = ⊥
IsDossierFault bytes (Rule number) = IsRejected bytes number
IsDossierFault bytes (Dossier line code) = ((most_text < length bytes) × (line ≡ 0) × (code ≡ 4)) ⊎ IsNoDossier bytes line code

-- The status of `check` at a dossier where nothing fails: that of the dossier's judgement.
abbrev pub CheckEnds : Statement → ℕ → Type 0
CheckEnds s status = (judgement : Judgement) × IsStatementJudged s judgement × IsSoundJudgement s judgement × (status ≡ judged_status judgement)

-- A command that reads a dossier takes at most so many bytes, else the dossier's fault 4.
abbrev pub dossier_input : Input
dossier_input = AtMost most_text (Dossier 0 4)

-- What is promised of `check`.
abbrev pub check_rules : Rules
check_rules = record {
  input = dossier_input;
  makes = λ bytes made. Verdict bytes made × Checks bytes made;
  refuses = IsDossierFault;
  faults = IsDossierFault;
  ends = λ bytes status. (s : Statement) → IsDossierText s bytes → length bytes ≤ most_text → CheckEnds s status;
}
