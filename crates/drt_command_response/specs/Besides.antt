-- What stands besides the verdict of `response`: releases that reach each number, that the dossier of a no is accepted, and the trail of a spent budget.
use Rattle.std.specs.Prelude.{◌≡◌, ℕ, ◌⊎◌, List}
use Rattle.drt_model.specs.Contents.{Contents}
use Rattle.drt_evidence.specs.Reading.{IsDossierText}
use Rattle.drt_claims.specs.declared.evidence.Evidence.TheVariants.{Undecided}
use Rattle.drt_outcome.specs.declared.outcome.Trail.{Trail}
use Rattle.drt_outcome.specs.declared.outcome.Trail.TheVariants as trails
use Rattle.drt_command.specs.declared.report.Report.{Report}
use Rattle.drt_response.specs.Answers.{AreResponses, IsUndecidedResponse}
use Rattle.drt_responses.specs.Text.{response_text}
use Rattle.drt_responses.specs.declared.response.Response.{Response}
use Rattle.drt_response.specs.declared.answer.ResponseTrail.{ResponseTrail}
use Rattle.drt_response.specs.declared.answer.ResponseTrail.TheVariants.{Fixed, Search}
use Rattle.drt_sp.specs.Evidence.{under_fixed}
use Rattle.drt_command_files.specs.TaskFiles.{IsAccepted}
use Rattle.drt_command_sp.specs.Besides.{IsSpNoText, fixed_trail_of}

-- The text says the greatest response time of each vertex of the set, in order of the file, with releases that reach it.
pub record IsResponseText (set : Contents) (text : List ℕ) : Type 0 where
  pub responses : List Response
  pub are : AreResponses set responses
  pub text_is : text ≡ response_text responses

-- The trail of a spent budget.
abbrev pub response_trail : ResponseTrail → Trail
response_trail (Fixed spent) = fixed_trail_of spent
response_trail (Search task vertex taken) = trails.Response task vertex taken

-- The text is that nothing is decided, and the trail shows that the budget was spent.
pub record IsResponseUndecidedText (set : Contents) (budget : ℕ) (written : List ℕ) (trail : Trail) : Type 0 where
  pub spent : ResponseTrail
  pub cause : IsUndecidedResponse set budget spent
  pub trail_is : trail ≡ response_trail spent
  pub is : IsDossierText (under_fixed set Undecided) written

-- The bytes are an accepted file. Status 0 with the responses, 1 with the no of `sp`, 3 with nothing decided; only the last has
-- a trail.
pub record Besides (budget : ℕ) (bytes : List ℕ) (made : Report) : Type 0 where
  pub set : Contents
  pub accepted : IsAccepted bytes set
  pub answer :
      ((made.status ≡ 0) × IsResponseText set made.text × (made.trail ≡ trails.Nothing))
      ⊎ (((made.status ≡ 1) × IsSpNoText set made.text × (made.trail ≡ trails.Nothing))
      ⊎ ((made.status ≡ 3) × IsResponseUndecidedText set budget made.text made.trail))
