-- A budget that is enough isn't spent.
use Rattle.std.specs.Prelude.{ℕ, ◌<◌, length}
use Rattle.drt_model.specs.Contents.{Contents}
use Rattle.drt_model.specs.Limits.{IsTaskSet}
use Rattle.drt_trails.specs.declared.FixedTrail.{FixedTrail}
use Rattle.drt_sp.specs.Needs.{IsEnoughForTrees}
use Rattle.drt_sp_task.specs.Task.{IsUndecidedTask}

-- Where nothing is said of a task, since a budget was spent, that budget isn't enough.
abbrev pub TaskBudgetsSuffice : Type 0
TaskBudgetsSuffice =
    (set : Contents) (k budget : ℕ) (spent : FixedTrail) → IsTaskSet set.version set.tasks → IsUndecidedTask set budget k spent → IsEnoughForTrees set.tasks budget
    → k < length set.tasks → ⊥
