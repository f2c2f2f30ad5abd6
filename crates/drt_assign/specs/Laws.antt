-- A budget that is enough isn't spent.
use Rattle.std.specs.Prelude.{ℕ}
use Rattle.drt_model.specs.Contents.{Contents}
use Rattle.drt_model.specs.Limits.{IsTaskSet}
use Rattle.drt_assign.specs.Assign.{IsAssigned}
use Rattle.drt_assign.specs.Needs.{IsEnoughForOrders}
use Rattle.drt_assign.specs.declared.answer.AssignAnswer.{AssignAnswer}
use Rattle.drt_assign.specs.declared.answer.AssignAnswer.TheVariants as answers

-- The answer is an order with its proof, or that no order exists.
abbrev pub IsOrderDecided : AssignAnswer → Type 0
IsOrderDecided (answers.Done dossier) = Unit {0}
IsOrderDecided (answers.NoOrder same stuck) = Unit {0}
IsOrderDecided (answers.Undecided same higher task trail) = ⊥
IsOrderDecided (answers.Unproved ordered trail) = ⊥

-- With a budget that is enough each answer decides.
abbrev pub AssignBudgetsSuffice : Type 0
AssignBudgetsSuffice =
    (set : Contents) (budget : ℕ) (answer : AssignAnswer) → IsTaskSet set.version set.tasks → IsAssigned set budget answer → IsEnoughForOrders set.tasks budget
    → IsOrderDecided answer
