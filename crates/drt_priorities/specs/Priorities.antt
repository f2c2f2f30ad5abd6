-- Tasks with other priorities, and whether some order of the tasks makes a set schedulable.
use Rattle.std.specs.Prelude.{◌≡◌, ◌≢◌, ℕ, List, [], ◌∷◌, length, All, AllPairs}
use Rattle.drt_model.specs.declared.jobs.Policy.TheVariants.{Fixed}
use Rattle.drt_model.specs.declared.tasks.Task.{Task}
use Rattle.drt_model.specs.Limits.{IsPriority}
use Rattle.drt_model.specs.Schedulable.{Schedulable}

-- The tasks with the priorities of a list: the first task has the first one, and so on. Tasks past the list's end keep theirs.
abbrev pub prioritised : List Task → List ℕ → List Task
prioritised [] priorities = []
prioritised (t ∷ tasks) [] = t ∷ tasks
prioritised (t ∷ tasks) (p ∷ priorities) = record t { priority = p } ∷ prioritised tasks priorities

-- There are so many priorities, each is 1 to 1,000,000, and no two are the same.
pub record ArePriorities (count : ℕ) (priorities : List ℕ) : Type 0 where
  pub as_many : length priorities ≡ count
  pub each : All IsPriority priorities
  pub distinct : AllPairs (λ p q. p ≢ q) priorities

-- Some distinct priorities of the tasks make the set schedulable under fixed priorities.
pub record OrderExists (tasks : List Task) : Type 0 where
  pub priorities : List ℕ
  pub are : ArePriorities (length tasks) priorities
  pub schedulable : Schedulable (prioritised tasks priorities) Fixed
