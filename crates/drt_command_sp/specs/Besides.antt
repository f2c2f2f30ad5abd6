-- What stands besides the verdict of `sp`: that evidence is accepted, that trees are exact, and the trail of a spent budget.
use Rattle.std.specs.Prelude.{◌≡◌, ℕ, ◌⊎◌, List, None, Option, Some}
use Rattle.drt_model.specs.Contents.{Contents}
use Rattle.drt_model.specs.declared.jobs.Release.{Release}
use Rattle.drt_model.specs.declared.jobs.Miss.{Miss}
use Rattle.drt_evidence.specs.Reading.{IsDossierText}
use Rattle.drt_claims.specs.declared.evidence.Evidence.{Evidence}
use Rattle.drt_claims.specs.declared.evidence.Evidence.TheVariants.{FixedNo, Undecided}
use Rattle.drt_outcome.specs.declared.outcome.Trail.{Trail}
use Rattle.drt_outcome.specs.declared.outcome.Trail.TheVariants as trails
use Rattle.drt_command.specs.declared.report.Report.{Report}
use Rattle.drt_fixed.specs.Answers.{IsNo, IsYes}
use Rattle.drt_sp.specs.Answers.{IsTreeUndecided}
use Rattle.drt_sp.specs.Evidence.{under_fixed}
use Rattle.drt_trails.specs.declared.FixedTrail.{FixedTrail}
use Rattle.drt_trails.specs.declared.FixedTrail.TheVariants.{Table, Refine}
use Rattle.drt_command_files.specs.TaskFiles.{IsAccepted}

-- The text is a yes: the set is schedulable under fixed priorities, and the evidence is accepted.
pub record IsSpYesText (set : Contents) (written : List ℕ) : Type 0 where
  pub evidence : Evidence
  pub yes : IsYes set evidence
  pub is : IsDossierText (under_fixed set evidence) written

-- The text is a no: the set isn't schedulable under fixed priorities, the releases written are legal, and the job named misses its
-- deadline.
pub record IsSpNoText (set : Contents) (written : List ℕ) : Type 0 where
  pub releases : List Release
  pub miss : Miss
  pub no : IsNo set releases miss
  pub is : IsDossierText (under_fixed set (FixedNo releases miss)) written

-- The trail of a spent budget.
abbrev pub fixed_trail_of : FixedTrail → Trail
fixed_trail_of (Table task log) = trails.Table task log
fixed_trail_of (Refine task vertex log) = trails.Refine task vertex log

-- The trail of an answer: that of a spent budget, where one was spent.
abbrev pub trail_after : Option FixedTrail → Trail
trail_after None = trails.Nothing
trail_after (Some spent) = fixed_trail_of spent

-- The text is that nothing is decided, and the trail shows that the budget was spent.
pub record IsSpUndecidedText (set : Contents) (budget : ℕ) (written : List ℕ) (trail : Trail) : Type 0 where
  pub spent : FixedTrail
  pub cause : IsTreeUndecided set budget spent
  pub trail_is : trail ≡ fixed_trail_of spent
  pub is : IsDossierText (under_fixed set Undecided) written

-- The bytes are an accepted file, and the text is the dossier of its answer. A yes has the status 0, a no 1 and a spent budget 3; only
-- the last has a trail.
pub record Besides (budget : ℕ) (bytes : List ℕ) (made : Report) : Type 0 where
  pub set : Contents
  pub accepted : IsAccepted bytes set
  pub answer :
      ((made.status ≡ 0) × IsSpYesText set made.text × (made.trail ≡ trails.Nothing))
      ⊎ (((made.status ≡ 1) × IsSpNoText set made.text × (made.trail ≡ trails.Nothing))
      ⊎ ((made.status ≡ 3) × IsSpUndecidedText set budget made.text made.trail))
