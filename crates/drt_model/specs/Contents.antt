-- What a task set is to contracts and definitions.
use Rattle.std.specs.Prelude.{ℕ, List}
use Rattle.drt_model.specs.declared.tasks.Task.{Task}

-- A task set has a version and tasks in order.
pub record Contents : Type 0 where
  pub version : ℕ
  pub tasks : List Task
