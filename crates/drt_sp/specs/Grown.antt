-- How an analysis ends, with its trees.
use Rattle.std.specs.Prelude.{◌≡◌, ℕ, ◌+◌, List, length, All}
use Rattle.drt_model.specs.Contents.{Contents}
use Rattle.drt_model.specs.declared.jobs.Policy.TheVariants.{Fixed}
use Rattle.drt_model.specs.Limits.{IsTaskSet}
use Rattle.drt_model.specs.Schedulable.{Schedulable}
use Rattle.drt_tree.specs.Tree.{IsForest}
use Rattle.drt_refine.specs.Below.{AreNodes}
use Rattle.drt_sp.specs.Choices.{AreTrees, FirstPass}
use Rattle.drt_check_trees.specs.Order.{IsOrder}
use Rattle.drt_claims.specs.Trees.{greatest_deadline}
use Rattle.drt_sp.specs.Answers.{AreExactTrees, IsTreeNo, IsTreeUndecided, IsAnswerOf}
use Rattle.drt_sp.specs.Needs.{AreFewLeaves}
use Rattle.drt_sp.specs.Progress.{AreTreesComplete}
use Rattle.drt_sp.specs.declared.answer.Answer.{Answer}
use Rattle.drt_sp.specs.declared.grown.ProvedTrees.{ProvedTrees}
use Rattle.drt_sp.specs.declared.progress.Progress.{Progress}
use Rattle.drt_trails.specs.declared.FixedTrail.{FixedTrail}

-- The set is schedulable, and each of its vertices passes. The trees are those of all tasks but that of lowest priority, and stand for the
-- walks of these tasks up to the greatest deadline, in order of priority, with no more leaves than there are walks.
pub record AreProvedTrees (set : Contents) (trees : ProvedTrees) : Type 0 where
  pub schedulable : Schedulable set.tasks Fixed
  pub limits : IsTaskSet set.version set.tasks
  pub order_is : IsOrder set.tasks trees.order
  pub count : length trees.roots + 1 ≡ length trees.order
  pub passed : FirstPass set.tasks trees.order (length trees.order)
  pub forest : IsForest trees.forest
  pub nodes : AreNodes trees.forest trees.roots
  pub one_bound : All (λ (xs : List ℕ). length xs ≡ greatest_deadline set.tasks) trees.forest.pool
  pub stand : AreTrees set.tasks trees.order (greatest_deadline set.tasks) trees.forest trees.roots
  pub few : AreFewLeaves set.tasks trees.order trees.forest trees.roots
  pub exact : AreExactTrees set.tasks trees.order trees.forest trees.roots

-- What each answer says, with a budget.
abbrev pub IsTreesAnswer : Contents → ℕ → Answer ProvedTrees FixedTrail → Type 0
IsTreesAnswer set budget answer = IsAnswerOf (AreProvedTrees set) (IsTreeNo set) (IsTreeUndecided set budget) answer

-- All vertices of a set are proved in this order.
abbrev pub IsComplete : Contents → List ℕ → Progress → Type 0
IsComplete set order p = AreTreesComplete set.tasks order p.forest p.roots.items p.trees.items p.proofs.items

-- How an analysis in this order ends.
abbrev pub IsOutcome : Contents → List ℕ → ℕ → Answer Progress FixedTrail → Type 0
IsOutcome set order budget answer = IsAnswerOf (IsComplete set order) (IsTreeNo set) (IsTreeUndecided set budget) answer
