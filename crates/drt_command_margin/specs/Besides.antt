-- What stands besides the verdict of `margin`: its evidence, and the trail of a spent budget.
use Rattle.std.specs.Prelude.{◌≡◌, ℕ, List}
use Rattle.drt_model.specs.Contents.{Contents}
use Rattle.drt_model.specs.declared.jobs.Policy.{Policy}
use Rattle.drt_evidence.specs.Text.{text}
use Rattle.drt_claims.specs.declared.evidence.Evidence.TheVariants.{Undecided}
use Rattle.drt_margin.specs.Answers.{IsMarginAnswer}
use Rattle.drt_margin.specs.declared.answer.MarginAnswer.{MarginAnswer}
use Rattle.drt_margin.specs.declared.answer.MarginAnswer.TheVariants as answers
use Rattle.drt_margin.specs.declared.answer.MarginTrail.{MarginTrail}
use Rattle.drt_margin.specs.declared.answer.MarginTrail.TheVariants as spent
use Rattle.drt_outcome.specs.declared.outcome.Trail.{Trail}
use Rattle.drt_outcome.specs.declared.outcome.Trail.TheVariants as trails
use Rattle.drt_command.specs.declared.report.Report.{Report}
use Rattle.drt_command_edf.specs.Besides as edf
use Rattle.drt_command_files.specs.Dossiers.{evidence_status}
use Rattle.drt_command_files.specs.Spots.{IsSpot}
use Rattle.drt_command_files.specs.TaskFiles.{IsAccepted}
use Rattle.drt_command_margin.specs.Text.{margin_text, with_evidence}
use Rattle.drt_command_sp.specs.Besides as sp

-- The trail of a spent budget.
abbrev pub margin_trail : MarginTrail → Trail
margin_trail (spent.Edf trail) = edf.edf_trail_of trail
margin_trail (spent.Fixed trail) = sp.fixed_trail_of trail

-- What is written of an answer, its status and its trail. Where numbers are out of reach nothing is.
abbrev pub IsReportOf : Policy → Contents → ℕ → ℕ → MarginAnswer → Report → Type 0
IsReportOf policy set k v (answers.Found add within next) made = made ≡ record { status = 0; text = margin_text policy set k v add within next; trail = trails.Nothing }
IsReportOf policy set k v (answers.AtZero evidence) made =
    made ≡ record { status = evidence_status evidence; text = text (record { policy = policy; set = set; evidence = evidence }); trail = trails.Nothing }
IsReportOf policy set k v (answers.Beyond add beyond) made = ⊥
IsReportOf policy set k v (answers.Undecided add trail) made =
    made ≡ record { status = 3; text = text (with_evidence policy set k v add Undecided); trail = margin_trail trail }

-- The bytes are an accepted file, and the report is that of an answer about the named vertex of its set with this budget.
pub record Besides (policy : Policy) (task vertex : List ℕ) (budget : ℕ) (bytes : List ℕ) (made : Report) : Type 0 where
  pub set : Contents
  pub accepted : IsAccepted bytes set
  pub k : ℕ
  pub v : ℕ
  pub spot : IsSpot set.tasks task vertex k v
  pub answer : MarginAnswer
  pub are : IsMarginAnswer set policy k v budget answer
  pub is : IsReportOf policy set k v answer made
