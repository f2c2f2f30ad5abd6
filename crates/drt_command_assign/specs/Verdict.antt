-- The verdict of `assign`: whether some distinct priorities make the set schedulable under fixed priorities.
use Rattle.std.specs.Prelude.{◌≡◌, ℕ, ◌⊎◌, List}
use Rattle.drt_model.specs.Contents.{Contents}
use Rattle.drt_model.specs.declared.jobs.Policy.TheVariants.{Fixed}
use Rattle.drt_priorities.specs.Priorities.{OrderExists, prioritised}
use Rattle.drt_command.specs.declared.report.Report.{Report}
use Rattle.drt_command_files.specs.TaskFiles.{IsAccepted}
use Rattle.drt_command_files.specs.Verdicts.{IsAbout}

-- What is written is about the set with distinct priorities under which it is schedulable.
pub record IsOrderText (set : Contents) (written : List ℕ) : Type 0 where
  pub order : OrderExists set.tasks
  pub about : IsAbout Fixed (record { version = 2; tasks = prioritised set.tasks order.priorities }) written

-- The bytes are an accepted file. At status 0 some priorities make its set schedulable, and such ones are written; at 1 none do; at 3 nothing is
-- decided.
pub record Verdict (bytes : List ℕ) (made : Report) : Type 0 where
  pub set : Contents
  pub accepted : IsAccepted bytes set
  pub answer :
      ((made.status ≡ 0) × IsOrderText set made.text)
      ⊎ (((made.status ≡ 1) × ¬ OrderExists set.tasks)
      ⊎ (made.status ≡ 3))
