-- What tails and states say of a task.
use Rattle.std.specs.Prelude.{ℕ, List}
use Rattle.drt_model.specs.declared.tasks.Task.{Task}
use Rattle.drt_busy.specs.Choice.{task_at}
use Rattle.drt_sp.specs.Choices.{VertexPasses}
use Rattle.drt_sp_states.specs.declared.search.Searched.{Searched}
use Rattle.drt_sp_states.specs.declared.search.Searched.TheVariants as searches
use Rattle.drt_sp_task.specs.Task.{IsMeeting, IsTaskMiss}
use Rattle.drt_sp_task.specs.declared.answer.TaskAnswer.{TaskAnswer}
use Rattle.drt_sp_task.specs.declared.answer.TaskAnswer.TheVariants as answers
use Rattle.drt_fixed_task.specs.Higher.{walk_in_file_order}
use Rattle.drt_fixed_task.specs.Walks.{LeaveNoTime}

-- What the search of the states of vertex v of task k says: for all walks a time passes; or walks of the tasks of higher priority, in order of
-- the file, leave it no time; or nothing.
abbrev pub IsSearched : List Task → ℕ → ℕ → Searched → Type 0
IsSearched tasks k v (searches.Passes states) = VertexPasses tasks k v
IsSearched tasks k v (searches.Misses walks) = LeaveNoTime tasks (walk_in_file_order tasks (task_at tasks k).priority walks) k v
IsSearched tasks k v searches.Spent = Unit {0}

-- An answer to task k that doesn't rest on a budget.
abbrev pub IsTaskDecided : List Task → ℕ → TaskAnswer → Type 0
IsTaskDecided tasks k answers.Meets = IsMeeting tasks k
IsTaskDecided tasks k (answers.Misses releases miss) = IsTaskMiss tasks k releases miss
IsTaskDecided tasks k (answers.Undecided trail) = ⊥
