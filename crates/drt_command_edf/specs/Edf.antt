-- What is promised of `edf`: what it writes, what it refuses, and with which status it ends.
use Rattle.std.specs.Prelude.{◌≡◌, ℕ, ◌⊎◌, List}
use Rattle.drt_model.specs.Contents.{Contents}
use Rattle.drt_model.specs.declared.jobs.Policy.TheVariants.{Edf}
use Rattle.drt_model.specs.Schedulable.{Schedulable}
use Rattle.drt_horizon.specs.declared.answers.Beyond.{Beyond}
use Rattle.drt_horizon.specs.declared.answers.Beyond.TheVariants.{TooFine, TooFar}
use Rattle.drt_edf.specs.Answers.{IsBeyond}
use Rattle.drt_claims.specs.Rates.{IsAtOne}
use Rattle.drt_edf.specs.Spent.{IsEnoughForEdf}
use Rattle.drt_command.specs.Rules.{Rules}
use Rattle.drt_command_files.specs.TaskFiles.{IsAccepted, IsFileFault, file_input}
use Rattle.drt_outcome.specs.declared.fault.Fault.{Fault}
use Rattle.drt_outcome.specs.declared.fault.Fault.TheVariants.{Limit}
use Rattle.drt_command_files.specs.Verdicts.{SetVerdict}
use Rattle.drt_command_edf.specs.Besides.{Besides}

-- The code of numbers out of reach: 21 where the scale exceeds 2^60, 22 where the horizon exceeds 2^40.
abbrev pub beyond_code : Beyond → ℕ
beyond_code TooFine = 21
beyond_code TooFar = 22

-- The file is accepted, but the numbers of its set are out of reach.
pub record IsOutOfReach (bytes : List ℕ) (fault : Fault) : Type 0 where
  pub set : Contents
  pub accepted : IsAccepted bytes set
  pub beyond : Beyond
  pub cause : IsBeyond set.tasks beyond
  pub is : fault ≡ Limit (beyond_code beyond)

-- The status of `edf` at an accepted set where nothing fails: 2 where the utilisation is one; 4 where its numbers are out of reach. Where
-- they aren't, and the budget is enough for each search, it is 2 only where the utilisation is one, 0 only where the set is schedulable
-- under EDF and 1 only where it isn't, and it is one of these.
pub record EdfEnds (set : Contents) (budget status : ℕ) : Type 0 where
  pub one : IsAtOne set.tasks → status ≡ 2
  pub beyond : (b : Beyond) → IsBeyond set.tasks b → status ≡ 4
  pub decided : IsEnoughForEdf set.tasks budget → ((b : Beyond) → ¬ IsBeyond set.tasks b)
      → ((status ≡ 2) × IsAtOne set.tasks) ⊎ (((status ≡ 0) × Schedulable set.tasks Edf) ⊎ ((status ≡ 1) × ¬ Schedulable set.tasks Edf))

-- What is promised of `edf` with this budget.
abbrev pub edf_rules : ℕ → Rules
edf_rules budget = record {
  input = file_input;
  makes = λ bytes made. SetVerdict Edf bytes made × Besides budget bytes made;
  refuses = λ bytes fault. IsFileFault bytes fault ⊎ IsOutOfReach bytes fault;
  faults = λ bytes fault. IsFileFault bytes fault ⊎ IsOutOfReach bytes fault;
  ends = λ bytes status. (set : Contents) → IsAccepted bytes set → EdfEnds set budget status;
}
