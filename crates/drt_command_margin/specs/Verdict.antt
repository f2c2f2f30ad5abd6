-- The verdict of `margin`: the greatest number of ticks by which the execution time of the named vertex can grow.
use Rattle.std.specs.Prelude.{◌≡◌, ℕ, ◌+◌, ◌≤◌, ◌⊎◌, List, ◌++◌, codes, decimal, Some, slice_get, slice_set}
use Rattle.drt_model.specs.Contents.{Contents}
use Rattle.drt_model.specs.Limits.{IsTaskSet}
use Rattle.drt_model.specs.declared.jobs.Policy.{Policy}
use Rattle.drt_model.specs.declared.jobs.Policy.TheVariants.{Edf}
use Rattle.drt_model.specs.declared.tasks.Task.{Task}
use Rattle.drt_model.specs.declared.tasks.Vertex.{Vertex}
use Rattle.drt_model.specs.Schedulable.{Schedulable}
use Rattle.drt_command.specs.declared.report.Report.{Report}
use Rattle.drt_command_files.specs.AtOne.{IsUtilisationBelowOne, IsUtilisationOne}
use Rattle.drt_command_files.specs.TaskFiles.{IsAccepted}

-- The tasks with so many ticks more of vertex x, number v of task t, number k.
abbrev pub grown_tasks : List Task → ℕ → Task → ℕ → Vertex → ℕ → List Task
grown_tasks tasks k t v x add = slice_set tasks k (record t { vertices = slice_set t.vertices v (record x { wcet = x.wcet + add }) })

-- The tasks keep the limits, are schedulable under the policy and, under EDF, have a utilisation below one.
pub record AreWithin (policy : Policy) (version : ℕ) (tasks : List Task) : Type 0 where
  pub limits : IsTaskSet version tasks
  pub schedulable : Schedulable tasks policy
  pub below_one : policy ≡ Edf → IsUtilisationBelowOne tasks

-- The first lines of the text say the greatest number of ticks more with which the tasks are within.
pub record IsMarginText (policy : Policy) (version : ℕ) (with_more : ℕ → List Task) (text : List ℕ) : Type 0 where
  pub add : ℕ
  pub within : AreWithin policy version (with_more add)
  pub greatest : (more : ℕ) → AreWithin policy version (with_more more) → more ≤ add
  pub rest : List ℕ
  pub is : text ≡ codes "drt-margin 1\nadd " ++ (decimal add ++ (codes "\nwithin\n" ++ rest))

-- The bytes are an accepted file, and a vertex of its set has the names. At status 0 the text says its margin under the policy; at 1 the set
-- isn't schedulable as it is; at 2 the policy is EDF and the utilisation is one; at 3 nothing is decided.
pub record Verdict (policy : Policy) (task vertex bytes : List ℕ) (made : Report) : Type 0 where
  pub set : Contents
  pub accepted : IsAccepted bytes set
  pub k : ℕ
  pub t : Task
  pub task_is : (slice_get set.tasks k ≡ Some t) × (t.name ≡ task)
  pub v : ℕ
  pub x : Vertex
  pub vertex_is : (slice_get t.vertices v ≡ Some x) × (x.name ≡ vertex)
  pub answer :
      ((made.status ≡ 0) × IsMarginText policy set.version (grown_tasks set.tasks k t v x) made.text)
      ⊎ (((made.status ≡ 1) × ¬ Schedulable set.tasks policy)
      ⊎ (((made.status ≡ 2) × (policy ≡ Edf) × IsUtilisationOne set.tasks)
      ⊎ (made.status ≡ 3)))
