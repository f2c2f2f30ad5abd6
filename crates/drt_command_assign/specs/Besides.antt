-- What stands besides the verdict of `assign`: that the priorities are those of Audsley's rule, that evidence is accepted, the whole text with what
-- the stuck tasks release, and the trail of a spent budget.
use Rattle.std.specs.Prelude.{ℕ, List, ◌≡◌}
use Rattle.drt_model.specs.Contents.{Contents}
use Rattle.drt_evidence.specs.Text.{text}
use Rattle.drt_claims.specs.declared.evidence.Evidence.TheVariants.{Undecided}
use Rattle.drt_sp.specs.Evidence.{under_fixed}
use Rattle.drt_assign.specs.Assign.{IsAssigned}
use Rattle.drt_assign.specs.declared.answer.AssignAnswer.{AssignAnswer}
use Rattle.drt_assign.specs.declared.answer.AssignAnswer.TheVariants as answers
use Rattle.drt_trails.specs.declared.FixedTrail.{FixedTrail}
use Rattle.drt_trails.specs.declared.FixedTrail.TheVariants.{Table, Refine}
use Rattle.drt_outcome.specs.declared.outcome.Trail.{Trail}
use Rattle.drt_outcome.specs.declared.outcome.Trail.TheVariants as trails
use Rattle.drt_command.specs.declared.report.Report.{Report}
use Rattle.drt_command_files.specs.TaskFiles.{IsAccepted}
use Rattle.drt_command_sp.specs.Besides.{fixed_trail_of}
use Rattle.drt_command_assign.specs.Text.{no_order_text}

-- The trail of a budget that was spent at a task under these others.
abbrev pub attempt_trail : List ℕ → FixedTrail → Trail
attempt_trail higher (Table task log) = trails.Table task log
attempt_trail higher (Refine task vertex log) = trails.Assign higher task vertex log

-- What is written of an answer, its status and its trail.
abbrev pub report_of : AssignAnswer → Report
report_of (answers.Done dossier) = record { status = 0; text = text dossier; trail = trails.Nothing }
report_of (answers.NoOrder set stuck) = record { status = 1; text = no_order_text set stuck; trail = trails.Nothing }
report_of (answers.Undecided set higher task trail) = record { status = 3; text = text (under_fixed set Undecided); trail = attempt_trail higher trail }
report_of (answers.Unproved set trail) = record { status = 3; text = text (under_fixed set Undecided); trail = fixed_trail_of trail }

-- The bytes are an accepted file, and the report is that of an answer to its set with this budget.
pub record Besides (budget : ℕ) (bytes : List ℕ) (made : Report) : Type 0 where
  pub set : Contents
  pub accepted : IsAccepted bytes set
  pub answer : AssignAnswer
  pub assigned : IsAssigned set budget answer
  pub is : made ≡ report_of answer
