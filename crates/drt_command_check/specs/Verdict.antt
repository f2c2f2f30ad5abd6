-- The verdict of `check`: what its line says of the set of a dossier, whoever made it.
use Rattle.std.specs.Prelude.{◌≡◌, ℕ, ◌⊎◌, List, codes}
use Rattle.drt_model.specs.Contents.{Contents}
use Rattle.drt_model.specs.declared.jobs.Policy.{Policy}
use Rattle.drt_model.specs.Schedulable.{Schedulable}
use Rattle.drt_command.specs.declared.report.Report.{Report}
use Rattle.drt_command_files.specs.AtOne.{IsUtilisationOne}
use Rattle.drt_command_files.specs.Verdicts.{IsAbout}

-- The bytes are about a set under a policy, as a dossier is. At status 0 the set is schedulable under it, at 1 it isn't; at 2 the utilisation is
-- one; at 3 nothing is claimed. The line that is written says so.
pub record Verdict (bytes : List ℕ) (made : Report) : Type 0 where
  pub policy : Policy
  pub set : Contents
  pub about : IsAbout policy set bytes
  pub answer :
      ((made.status ≡ 0) × (made.text ≡ codes "schedulable\n") × Schedulable set.tasks policy)
      ⊎ (((made.status ≡ 1) × (made.text ≡ codes "unschedulable\n") × ¬ Schedulable set.tasks policy)
      ⊎ (((made.status ≡ 2) × (made.text ≡ codes "utilisation-one\n") × IsUtilisationOne set.tasks)
      ⊎ ((made.status ≡ 3) × (made.text ≡ codes "nothing-to-check\n"))))
