-- What `margin` knows on its way.
use Rattle.std.specs.Prelude.{◌≡◌}
use Rattle.drt_model.specs.Contents.{Contents}
use Rattle.drt_margin.specs.Margin.{IsVertexOf}
use Rattle.drt_margin.specs.declared.answer.MarginAnswer.{MarginAnswer}
use Rattle.drt_margin.specs.declared.answer.MarginAnswer.TheVariants as answers
use Rattle.drt_outcome.specs.declared.fault.Fault.TheVariants.{Probe}
use Rattle.drt_command.specs.declared.report.Unmade.{Unmade}
use Rattle.drt_command.specs.declared.report.Unmade.TheVariants.{Memory, Refused}
use Rattle.drt_command_edf.specs.Edf.{beyond_code}
use Rattle.drt_command_files.specs.Spots.{IsSpot}
use Rattle.drt_command_margin.specs.Margin.{policy_of}
use Rattle.drt_command_margin.specs.declared.command.Margin.{Margin}
use Rattle.drt_margin.specs.declared.question.Question.{Question}

-- It is the vertex that the command names, under its policy.
pub record IsSpotOf (set : Contents) (command : Margin) (spot : Question) : Type 0 where
  pub policy : spot.policy ≡ policy_of command.fixed
  pub named : IsSpot set.tasks command.task command.vertex spot.task spot.vertex
  pub vertex : IsVertexOf set.tasks spot.task spot.vertex

-- Why an answer has no report: its numbers are out of reach. Want of memory is free.
abbrev pub IsProbeCause : MarginAnswer → Unmade → Type 0
IsProbeCause answer Memory = Unit {0}
IsProbeCause (answers.Beyond add beyond) (Refused fault) = fault ≡ Probe add (beyond_code beyond)
IsProbeCause other (Refused fault) = ⊥
