-- What stands besides the verdict of `edf`: that evidence is accepted, that fronts are exact, that no assignment of jobs to ticks helps a no, and
-- the trail of a spent budget.
use Rattle.std.specs.Prelude.{◌≡◌, ℕ, ◌⊎◌, List}
use Rattle.drt_model.specs.Contents.{Contents}
use Rattle.drt_model.specs.declared.jobs.Policy.TheVariants.{Edf}
use Rattle.drt_model.specs.declared.jobs.Release.{Release}
use Rattle.drt_model.specs.declared.jobs.Miss.{Miss}
use Rattle.drt_claims.specs.declared.evidence.Evidence.{Evidence}
use Rattle.drt_claims.specs.declared.evidence.Evidence.TheVariants.{EdfYes, EdfNo, UtilisationOne, Undecided}
use Rattle.drt_graph.specs.declared.front.FrontEntry.{FrontEntry}
use Rattle.drt_rates.specs.declared.ratio_claim.RatioClaim.{RatioClaim}
use Rattle.drt_claims.specs.Rules.{Accepts}
use Rattle.drt_claims.specs.Statement.{Statement}
use Rattle.drt_evidence.specs.Reading.{IsDossierText}
use Rattle.drt_edf.specs.Answers.{IsExactEdfYes, IsEdfMiss, IsOnlyOne, IsOther, IsEdfUndecided}
use Rattle.drt_trails.specs.declared.EdfTrail.{EdfTrail}
use Rattle.drt_trails.specs.declared.EdfTrail.TheVariants.{Table, Overload}
use Rattle.drt_command.specs.declared.report.Report.{Report}
use Rattle.drt_command_files.specs.TaskFiles.{IsAccepted}
use Rattle.drt_outcome.specs.declared.outcome.Trail.{Trail}
use Rattle.drt_outcome.specs.declared.outcome.Trail.TheVariants as trails

-- A set under EDF with this evidence.
abbrev pub under_edf : Contents → Evidence → Statement
under_edf set evidence = record { policy = Edf; set = set; evidence = evidence }

-- The text is that of a dossier of the set under EDF with this evidence, which keeps the rules of the checker. So `check` reads it as that
-- dossier, and accepts it.
pub record IsAcceptedText (set : Contents) (evidence : Evidence) (written : List ℕ) : Type 0 where
  pub accepts : Accepts (under_edf set evidence)
  pub is : IsDossierText (under_edf set evidence) written

-- The text is a yes: the set is schedulable under EDF, and each front is exact.
pub record IsEdfYesText (set : Contents) (written : List ℕ) : Type 0 where
  pub ratios : List RatioClaim
  pub fronts : List (List FrontEntry)
  pub yes : IsExactEdfYes set.tasks ratios fronts
  pub other : IsOther set.tasks
  pub is : IsAcceptedText set (EdfYes ratios fronts) written

-- The text is a no: the set isn't schedulable under EDF, and no assignment of jobs to ticks meets the deadlines of the releases.
pub record IsEdfNoText (set : Contents) (written : List ℕ) : Type 0 where
  pub releases : List Release
  pub miss : Miss
  pub no : IsEdfMiss set.tasks releases miss
  pub other : IsOther set.tasks
  pub is : IsAcceptedText set (EdfNo releases miss) written

-- The text is that the utilisation is one.
pub record IsOneText (set : Contents) (written : List ℕ) : Type 0 where
  pub ratios : List RatioClaim
  pub one : IsOnlyOne set.tasks ratios
  pub is : IsAcceptedText set (UtilisationOne ratios) written

-- The trail of a spent budget.
abbrev pub edf_trail_of : EdfTrail → Trail
edf_trail_of (Table task log) = trails.Table task log
edf_trail_of (Overload last) = trails.Overload last

-- The text is that nothing is decided, and the trail shows that the budget was spent.
pub record IsUndecidedText (set : Contents) (budget : ℕ) (written : List ℕ) (trail : Trail) : Type 0 where
  pub spent : EdfTrail
  pub cause : IsEdfUndecided set.tasks budget spent
  pub trail_is : trail ≡ edf_trail_of spent
  pub is : IsDossierText (under_edf set Undecided) written

-- The bytes are an accepted file, and the text is the dossier of its answer. A yes has the status 0, a no 1, a utilisation of one 2 and a
-- spent budget 3; only the last has a trail.
pub record Besides (budget : ℕ) (bytes : List ℕ) (made : Report) : Type 0 where
  pub set : Contents
  pub accepted : IsAccepted bytes set
  pub answer :
      ((made.status ≡ 0) × IsEdfYesText set made.text × (made.trail ≡ trails.Nothing))
      ⊎ (((made.status ≡ 1) × IsEdfNoText set made.text × (made.trail ≡ trails.Nothing))
      ⊎ (((made.status ≡ 2) × IsOneText set made.text × (made.trail ≡ trails.Nothing))
      ⊎ ((made.status ≡ 3) × IsUndecidedText set budget made.text made.trail)))
