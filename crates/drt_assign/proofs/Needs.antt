-- A budget that is enough for orders is enough under all priorities, and so no analysis spends it.
use Rattle.std.proofs.Common.{◌≡◌, ℕ, zero, suc, ◌+◌, ◌*◌, ◌<◌, ◌≤◌, cond, ltb, max, List, [], ◌∷◌, length, refl, sym, ap, subst, arith, inl, inr}
use Rattle.std.proofs.Math.Nat.{mul-le-mul}
use Rattle.std.proofs.lemmas.Bool.{cases_Bool}
use Rattle.drt_model.specs.declared.tasks.Task.{Task}
use Rattle.drt_model.specs.Contents.{Contents}
use Rattle.drt_graph.specs.Degrees.{most_out}
use Rattle.drt_model.specs.Digraph.{Digraph, vertex_count}
use Rattle.drt_model.specs.Limits.{IsTask, IsTaskSet}
use Rattle.drt_model.specs.Walk.{span}
use Rattle.drt_busy.specs.Choice.{graph_at, no_task, task_at}
use Rattle.drt_claims.specs.Trees.{IsShortWalk, greatest_deadline, latest_deadline}
use Rattle.drt_priorities.specs.Priorities.{ArePriorities, prioritised}
use Rattle.drt_priorities.proofs.Prioritised.{graph_stays, keep_limits, length-prioritised}
use Rattle.drt_sp.specs.Answers.{IsTreeUndecided}
use Rattle.drt_sp.specs.Laws.{BudgetsSuffice}
use Rattle.drt_sp.specs.Needs.{HasAtMost, IsEnoughForTrees, product_above}
use Rattle.drt_sp.proofs.GreatestDeadline.{greatest_some}
use Rattle.drt_sp_task.specs.Laws.{TaskBudgetsSuffice}
use Rattle.drt_assign.specs.Assign.{with_priorities}
use Rattle.drt_assign.specs.Laws.{AssignBudgetsSuffice}
use Rattle.drt_assign.specs.Needs.{IsEnoughForOrders, product_of}
use Rattle.drt_assign.specs.declared.answer.AssignAnswer.TheVariants as answers

-- Deadlines stay as they are.
deadline_stays : (tasks : List Task) (ps : List ℕ) → greatest_deadline (prioritised tasks ps) ≡ greatest_deadline tasks
unfolding greatest_deadline
deadline_stays [] ps = refl
deadline_stays (t ∷ tasks) [] = refl
deadline_stays (t ∷ tasks) (p ∷ ps) = ap (max (latest_deadline t.vertices)) (deadline_stays tasks ps)

-- A vertex alone is a walk, so there is at least one.
one_walk : (bound : ℕ) (g : Digraph) (n : ℕ) → 1 ≤ vertex_count g → 1 ≤ bound → HasAtMost bound g n → 1 ≤ n
unfolding span
one_walk bound g n some high has =
    let short : IsShortWalk bound g (0 ∷ []) = (omega arith, tt, omega arith) in
    let place = has.2 (0 ∷ []) short in
    omega (arith, place.1, has.1)

-- A product of some of the numbers is at most that of all.
product_less : (tasks : List Task) (counts : ℕ → ℕ) (p n : ℕ) → ((k : ℕ) → k < n → 1 ≤ counts k) → product_above tasks counts p n ≤ product_of counts n
unfolding product_above product_of
product_less tasks counts p zero some = omega arith
product_less tasks counts p (suc k) some =
    let before = product_less tasks counts p k (λ j l. some j (omega arith)) in
    let last : cond (ltb (task_at tasks k).priority p) (counts k) 1 ≤ counts k = elim (cases_Bool (ltb (task_at tasks k).priority p)) [
      | inl t ↦ rw t (omega arith)
      | inr f ↦ rw f (some k (omega arith))
    ] in
    mul-le-mul before last

module _ (version : ℕ) (tasks : List Task) (limits : IsTaskSet version tasks) (budget : ℕ) (enough : IsEnoughForOrders tasks budget) where
  counts_some : (k : ℕ) → k < length tasks → 1 ≤ enough.counts k
  counts_some k l =
      let task : IsTask version (task_at tasks k) = limits.each k no_task l in
      one_walk (greatest_deadline tasks) (graph_at tasks k) (enough.counts k) task.has_vertex (greatest_some version tasks limits) (enough.walks k l)

  enough_under : (ps : List ℕ) → IsEnoughForTrees (prioritised tasks ps) budget
  enough_under ps = record {
    counts = enough.counts;
    walks = λ k l. subst (λ (bound : ℕ). HasAtMost bound (graph_at (prioritised tasks ps) k) (enough.counts k)) (sym (deadline_stays tasks ps))
        (subst (λ (g : Digraph). HasAtMost (greatest_deadline tasks) g (enough.counts k)) (sym (graph_stays tasks ps k no_task)) (enough.walks k (omega (arith, l, long))));
    searches = λ k i l l' less. subst (λ (g : Digraph). enough.counts k * (most_out g.out + 2) ≤ budget) (sym (graph_stays tasks ps k no_task)) (enough.searches k (omega (arith, l, long)));
    refinements = λ k l. fits (task_at (prioritised tasks ps) k).priority;
  }
    where
      long : length (prioritised tasks ps) ≡ length tasks
      long = length-prioritised tasks ps

      fits : (p : ℕ) → 4 * product_above (prioritised tasks ps) enough.counts p (length (prioritised tasks ps)) ≤ budget
      fits p = subst (λ n. 4 * product_above (prioritised tasks ps) enough.counts p n ≤ budget) (sym long)
          (omega (arith, product_less (prioritised tasks ps) enough.counts p (length tasks) counts_some, enough.refinements))

  limits_under : (ps : List ℕ) → ArePriorities (length tasks) ps → IsTaskSet 2 (prioritised tasks ps)
  limits_under ps are = keep_limits version tasks ps limits are

pub assign_suffices : BudgetsSuffice → TaskBudgetsSuffice → AssignBudgetsSuffice
assign_suffices law of_task set budget (answers.Done dossier) limits is enough = tt
assign_suffices law of_task set budget (answers.NoOrder same stuck) limits is enough = tt
assign_suffices law of_task set budget (answers.Undecided same higher task trail) limits is enough =
    let at = is.ended.spent in
    let are : ArePriorities (length set.tasks) at.priorities = subst (λ n. ArePriorities n at.priorities) is.ended.are.as_many at.trial.are in
    of_task (with_priorities set.tasks at.priorities) task budget trail (limits_under set.version set.tasks limits budget enough at.priorities are) at.spent
    (enough_under set.version set.tasks limits budget enough at.priorities) (omega (arith, at.task, length-prioritised set.tasks at.priorities))
assign_suffices law of_task set budget (answers.Unproved ordered trail) limits is enough =
    law (with_priorities set.tasks is.priorities) budget trail (limits_under set.version set.tasks limits budget enough is.priorities is.by_rule.are)
    (subst (λ (s : Contents). IsTreeUndecided s budget trail) is.ordered_is is.spent) (enough_under set.version set.tasks limits budget enough is.priorities)
