-- What is promised of `margin`.
use Rattle.std.specs.Prelude.{◌≡◌, ℕ, ◌⊎◌, Bool, true, false, List}
use Rattle.drt_model.specs.Contents.{Contents}
use Rattle.drt_model.specs.declared.jobs.Policy.{Policy}
use Rattle.drt_model.specs.declared.jobs.Policy.TheVariants.{Edf, Fixed}
use Rattle.drt_horizon.specs.declared.answers.Beyond.{Beyond}
use Rattle.drt_margin.specs.Answers.{IsBeyondAt}
use Rattle.drt_outcome.specs.declared.fault.Fault.{Fault}
use Rattle.drt_outcome.specs.declared.fault.Fault.TheVariants.{Limit, Probe}
use Rattle.drt_command.specs.Rules.{Rules}
use Rattle.drt_command_edf.specs.Edf.{beyond_code}
use Rattle.drt_command_files.specs.Spots.{IsSpot, NamesNone}
use Rattle.drt_command_files.specs.TaskFiles.{IsAccepted, IsFileFault, file_input}
use Rattle.drt_command_margin.specs.Besides.{Besides}
use Rattle.drt_command_margin.specs.Verdict.{Verdict}

-- The policy: EDF, or fixed priorities where they are asked for.
abbrev pub policy_of : Bool → Policy
policy_of true = Fixed
policy_of false = Edf

-- The file is accepted, but its set has no such task, or the task no such vertex.
pub record HasNoSpot (task vertex bytes : List ℕ) : Type 0 where
  pub set : Contents
  pub accepted : IsAccepted bytes set
  pub none : NamesNone task vertex set.tasks

-- Which fault the input has: that of the file, or code 27 where it has no such vertex.
abbrev pub IsMarginFault : List ℕ → List ℕ → List ℕ → Fault → Type 0
IsMarginFault task vertex bytes fault = IsFileFault bytes fault ⊎ (HasNoSpot task vertex bytes × (fault ≡ Limit 27))

-- The file is accepted, but with a number of ticks that is tried the numbers of its set are out of reach under EDF.
pub record IsProbed (policy : Policy) (task vertex bytes : List ℕ) (fault : Fault) : Type 0 where
  pub set : Contents
  pub accepted : IsAccepted bytes set
  pub k : ℕ
  pub v : ℕ
  pub spot : IsSpot set.tasks task vertex k v
  pub add : ℕ
  pub beyond : Beyond
  pub cause : IsBeyondAt set policy k v add beyond
  pub is : fault ≡ Probe add (beyond_code beyond)

-- What is promised of `margin` of the vertex with these names, under fixed priorities or EDF, with this budget.
abbrev pub margin_rules : Bool → List ℕ → List ℕ → ℕ → Rules
margin_rules fixed task vertex budget = record {
  input = file_input;
  makes = λ bytes made. Verdict (policy_of fixed) task vertex bytes made × Besides (policy_of fixed) task vertex budget bytes made;
  refuses = λ bytes fault. IsMarginFault task vertex bytes fault ⊎ IsProbed (policy_of fixed) task vertex bytes fault;
  faults = IsMarginFault task vertex;
  ends = λ bytes status. HasNoSpot task vertex bytes → status ≡ 4;
}
