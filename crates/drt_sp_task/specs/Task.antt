-- Whether one task meets its deadlines under its priority, whatever the tasks of lower priority do.
use Rattle.std.specs.Prelude.{◌≡◌, ℕ, ◌<◌, ◌≤◌, List, length, All}
use Rattle.drt_model.specs.Contents.{Contents}
use Rattle.drt_model.specs.Digraph.{vertex_count}
use Rattle.drt_model.specs.Legal.{IsLegal}
use Rattle.drt_model.specs.Misses.{miss_of}
use Rattle.drt_model.specs.Schedulable.{jobs_of, priority_of}
use Rattle.drt_model.specs.Trace.{Misses}
use Rattle.drt_model.specs.Walk.{deadline, wcet}
use Rattle.drt_model.specs.declared.jobs.Miss.{Miss}
use Rattle.drt_model.specs.declared.jobs.Policy.TheVariants.{Fixed}
use Rattle.drt_model.specs.declared.jobs.Release.{Release}
use Rattle.drt_model.specs.declared.tasks.Task.{Task}
use Rattle.drt_busy.specs.Choice.{graph_at, task_at}
use Rattle.drt_tree.specs.Tree.{IsForest, Plain}
use Rattle.drt_refine.specs.Below.{AreNodes}
use Rattle.drt_refine.specs.declared.step.FrontierEntry.{FrontierEntry}
use Rattle.drt_sp.specs.Choices.{VertexPasses}
use Rattle.drt_sp.specs.ChoiceLaws.{IsPosed}
use Rattle.drt_claims.specs.Trees.{greatest_deadline}
use Rattle.drt_trails.specs.declared.FixedTrail.{FixedTrail}
use Rattle.drt_trails.specs.declared.FixedTrail.TheVariants.{Table, Refine}
use Rattle.drt_sp.specs.Answers.{AreExactTrees}
use Rattle.drt_busy.specs.Response.{MeetsDeadlines}
use Rattle.drt_sp.specs.Items.{IsSpentRefinement}
use Rattle.drt_sp.specs.Needs.{AreFewLeaves, IsBelowRefinement, IsBelowSearch}
use Rattle.drt_sp.specs.TreeClaims.{IsSpentWalkSearch}
use Rattle.drt_sp_task.specs.declared.answer.TaskAnswer.{TaskAnswer}
use Rattle.drt_sp_task.specs.declared.answer.TaskAnswer.TheVariants as answers

-- For all walks of the tasks a time passes at each vertex of the task.
abbrev pub TaskPasses : List Task → ℕ → Type 0
TaskPasses tasks k = (v : ℕ) → v < vertex_count (graph_at tasks k) → VertexPasses tasks k v

-- A yes: no job of the task misses, whatever the tasks legally release; for all walks a time passes at each of its vertices.
pub record IsMeeting (tasks : List Task) (k : ℕ) : Type 0 where
  pub meets : MeetsDeadlines tasks k
  pub passes : TaskPasses tasks k

-- A no: legal releases, none of a task of lower priority, in which the named job, which is of the task, misses. So some walks leave no time.
pub record IsTaskMiss (tasks : List Task) (k : ℕ) (releases : List Release) (miss : Miss) : Type 0 where
  pub legal : IsLegal tasks releases
  pub above : All (λ r. priority_of tasks r ≤ (task_at tasks k).priority) releases
  pub job : ℕ
  pub here : job < length releases
  pub is : miss ≡ miss_of (jobs_of tasks releases) job
  pub of_task : miss.task ≡ k
  pub misses : Misses Fixed (jobs_of tasks releases) job
  pub fails : TaskPasses tasks k → ⊥

-- The refinement at a vertex of the task spent the budget, which is below what it may need: the trees are those of the tasks of higher
-- priority and stand for the walks of these, and for all walks a time passes at each earlier vertex.
pub record IsSpentTask (set : Contents) (budget k v : ℕ) (log : List FrontierEntry) : Type 0 where
  pub order : List ℕ
  pub forest : Plain
  pub roots : List ℕ
  pub nodes : AreNodes forest roots
  pub posed : IsPosed set.version set.tasks order (greatest_deadline set.tasks) forest roots k v
  pub earlier : (u : ℕ) → u < v → VertexPasses set.tasks k u
  pub forest_is : IsForest forest
  pub few : AreFewLeaves set.tasks order forest roots
  pub exact : AreExactTrees set.tasks order forest roots
  pub refinement : IsSpentRefinement forest (wcet (graph_at set.tasks k) v) (deadline (graph_at set.tasks k) v) roots budget log
  pub short : IsBelowRefinement set.tasks budget k

-- Why nothing is said of the task: a budget was spent that is below what may be needed, by the search of the walks of a task of higher
-- priority, or at a vertex of the task.
abbrev pub IsUndecidedTask : Contents → ℕ → ℕ → FixedTrail → Type 0
IsUndecidedTask set budget k (Table task log) =
    (task < length set.tasks) × ((task_at set.tasks task).priority < (task_at set.tasks k).priority)
    × IsSpentWalkSearch (graph_at set.tasks task) (greatest_deadline set.tasks) budget log
    × IsBelowSearch (greatest_deadline set.tasks) (graph_at set.tasks task) budget
IsUndecidedTask set budget k (Refine task v log) = (task ≡ k) × IsSpentTask set budget k v log

-- What each answer says of task k, with a budget.
abbrev pub IsTaskAnswer : Contents → ℕ → ℕ → TaskAnswer → Type 0
IsTaskAnswer set budget k answers.Meets = IsMeeting set.tasks k
IsTaskAnswer set budget k (answers.Misses releases miss) = IsTaskMiss set.tasks k releases miss
IsTaskAnswer set budget k (answers.Undecided trail) = IsUndecidedTask set budget k trail
