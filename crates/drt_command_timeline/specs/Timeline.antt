-- `timeline` of a dossier: what it draws, what it refuses, and with which status it ends.
use Rattle.std.specs.Prelude.{◌≡◌, ℕ, ◌≤◌, ◌⊎◌, Bool, List, length}
use Rattle.drt_model.specs.Numbers.{most_text}
use Rattle.drt_claims.specs.Kinds.{stated_miss, stated_releases}
use Rattle.drt_evidence.specs.Reading.{IsDossierText}
use Rattle.drt_claims.specs.Statement.{Statement}
use Rattle.drt_check.specs.Judging.{IsStatementJudged, IsSoundJudgement}
use Rattle.drt_check.specs.declared.judgement.Judgement.{Judgement}
use Rattle.drt_check.specs.declared.judgement.Judgement.TheVariants as judgements
use Rattle.drt_outcome.specs.declared.fault.Fault.{Fault}
use Rattle.drt_outcome.specs.declared.fault.Fault.TheVariants as faults
use Rattle.drt_outcome.specs.declared.outcome.Trail.TheVariants as trails
use Rattle.drt_command.specs.declared.report.Report.{Report}
use Rattle.drt_command.specs.Rules.{Rules}
use Rattle.drt_command_check.specs.Check.{IsDossier, IsDossierFault, IsJudgementOf, dossier_input}
use Rattle.drt_command_timeline.specs.Drawn.{IsDrawn}

-- The status of each judgement: a no is drawn, rejected evidence breaks a rule, and the others have no releases to draw.
abbrev pub timeline_status : Judgement → ℕ
timeline_status judgements.Schedulable = 10
timeline_status judgements.Unschedulable = 1
timeline_status judgements.UtilisationOne = 10
timeline_status judgements.NothingToCheck = 10
timeline_status (judgements.Rejected number) = 9

-- The bytes are this dossier, with this judgement, which means what it says.
pub record IsJudgedDossier (bytes : List ℕ) (s : Statement) (judgement : Judgement) : Type 0 where
  pub dossier : IsDossier bytes s
  pub judged : IsStatementJudged s judgement
  pub sound : IsSoundJudgement s judgement

-- The bytes are the dossier of a no, and its releases are drawn up to the deadline that is missed.
pub record IsDrawnNo (svg : Bool) (bytes text : List ℕ) : Type 0 where
  pub statement : Statement
  pub no : IsJudgedDossier bytes statement judgements.Unschedulable
  pub drawn : IsDrawn svg statement.set.tasks statement.policy (stated_releases statement.evidence) (stated_miss statement.evidence).deadline text

-- `timeline` of a dossier: its no is drawn, with status 1, as `check` has, and without a trail.
pub record DrawsNo (svg : Bool) (bytes : List ℕ) (made : Report) : Type 0 where
  pub no : IsDrawnNo svg bytes made.text
  pub status_is : made.status ≡ 1
  pub trail : made.trail ≡ trails.Nothing

-- The bytes are a dossier without releases: a yes, a utilisation of one, or one where nothing is claimed.
pub record HasNoReleases (bytes : List ℕ) : Type 0 where
  pub judgement : Judgement
  pub of : IsJudgementOf bytes judgement
  pub none : timeline_status judgement ≡ 10

-- A dossier has this fault: that of a dossier, or code 5 at line 0 where there are no releases to draw.
abbrev pub IsTimelineFault : List ℕ → Fault → Type 0
IsTimelineFault bytes fault = IsDossierFault bytes fault ⊎ (HasNoReleases bytes × (fault ≡ faults.Dossier 0 5))

-- The status of `timeline` at a dossier where nothing fails: that of the dossier's judgement.
abbrev pub TimelineEnds : Statement → ℕ → Type 0
TimelineEnds s status = (judgement : Judgement) × IsStatementJudged s judgement × IsSoundJudgement s judgement × (status ≡ timeline_status judgement)

-- What is promised of `timeline` of a dossier, as text or as a picture.
abbrev pub timeline_rules : Bool → Rules
timeline_rules svg = record {
  input = dossier_input;
  makes = DrawsNo svg;
  refuses = IsTimelineFault;
  faults = IsTimelineFault;
  ends = λ bytes status. (s : Statement) → IsDossierText s bytes → length bytes ≤ most_text → TimelineEnds s status;
}
