-- What a text is about, and the verdict of `edf` and of `sp`.
use Rattle.std.specs.Prelude.{◌≡◌, ℕ, ◌⊎◌, List, ◌∷◌, ◌++◌, codes}
use Rattle.drt_model.specs.Contents.{Contents}
use Rattle.drt_model.specs.declared.jobs.Policy.{Policy}
use Rattle.drt_model.specs.declared.jobs.Policy.TheVariants.{Edf}
use Rattle.drt_model.specs.Schedulable.{Schedulable}
use Rattle.drt_file.specs.trusted.Reading.{Reads}
use Rattle.drt_file.specs.trusted.Words.{policy_word}
use Rattle.drt_command.specs.declared.report.Report.{Report}
use Rattle.drt_command_files.specs.AtOne.{IsUtilisationOne}
use Rattle.drt_command_files.specs.TaskFiles.{IsAccepted}

-- A text is about this set under this policy: its first line is that of a dossier, the second one names the policy, and behind them stands a text
-- that reads as the set.
pub record IsAbout (policy : Policy) (set : Contents) (bytes : List ℕ) : Type 0 where
  pub body : List ℕ
  pub rest : List ℕ
  pub is : bytes ≡ codes "drt-dossier 1\npolicy " ++ (policy_word policy ++ 10 ∷ (body ++ rest))
  pub reads : Reads body set

-- The bytes are an accepted file, and what is written is about its set. At status 0 the set is schedulable under the policy, at 1 it isn't; at
-- 2 the policy is EDF and the utilisation is one; at 3 nothing is decided.
pub record SetVerdict (policy : Policy) (bytes : List ℕ) (made : Report) : Type 0 where
  pub set : Contents
  pub accepted : IsAccepted bytes set
  pub about : IsAbout policy set made.text
  pub answer :
      ((made.status ≡ 0) × Schedulable set.tasks policy)
      ⊎ (((made.status ≡ 1) × ¬ Schedulable set.tasks policy)
      ⊎ (((made.status ≡ 2) × (policy ≡ Edf) × IsUtilisationOne set.tasks)
      ⊎ (made.status ≡ 3)))
