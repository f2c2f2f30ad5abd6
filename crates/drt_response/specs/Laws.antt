-- A budget that is enough isn't spent.
use Rattle.std.specs.Prelude.{ℕ}
use Rattle.drt_model.specs.Contents.{Contents}
use Rattle.drt_model.specs.Limits.{IsTaskSet}
use Rattle.drt_sp.specs.Needs.{IsEnoughForTrees}
use Rattle.drt_response.specs.Answers.{IsUndecidedResponse}
use Rattle.drt_response.specs.declared.answer.ResponseTrail.{ResponseTrail}

-- Where there are no response times, since a budget was spent, that budget isn't enough.
abbrev pub ResponseBudgetsSuffice : Type 0
ResponseBudgetsSuffice = (set : Contents) (budget : ℕ) (spent : ResponseTrail) → IsTaskSet set.version set.tasks → IsUndecidedResponse set budget spent
    → IsEnoughForTrees set.tasks budget → ⊥
