use Rattle.std.proofs.Common.{◌≡◌, true, false, ltb, List, [], ◌∷◌, ◌++◌, ℕ, length, sym, ap, arith, ◌∙◌}
use Rattle.std.proofs.Math.Numerals.{add-one}
use Rattle.std.proofs.lemmas.List.{length-map}
use Rattle.drt_model.specs.declared.tasks.Task.{Task}
use Rattle.drt_model.specs.Digraph.{digraph_of}
use Rattle.drt_busy.specs.Choice.{task_at}
use Rattle.drt_fixed_task.specs.Higher.{higher_before}
use Rattle.drt_fixed_task.proofs.HigherTasks.{higher_no, higher_yes}
use Rattle.drt_fixed_task.proofs.higher.higher_tasks.Goals.{then-is_higher+in_ok-push, else-is_higher}
use Rattle.drt_fixed_task.proofs.higher.higher_tasks.Goals as goal

pub tasks-preserved : goal.tasks-preserved
tasks-preserved c =
    let tasks : List Task = c.args.set.now.tasks in
    let p : ℕ = (task_at tasks c.args.task).priority in
    let k : ℕ = c.tasks.k in
    let next = ap (λ (n : ℕ). higher_before tasks p n) (sym (add-one k)) in
    elim c.if-is_higher.branch [
      | then-is_higher+in_ok-push w ↦
          (let above : ltb (task_at tasks k).priority p ≡ true = sym c.is_higher.ensures ∙ w.if-is_higher.true in
          ap (λ x. x.items) w.higher-is ∙ (w.in_ok-push.ensures.items ∙ (ap (λ (xs : List ℕ). xs ++ k ∷ []) c.tasks.invariant ∙ (sym (higher_yes tasks p k above) ∙ next))))
      | else-is_higher w ↦
          (let below : ltb (task_at tasks k).priority p ≡ false = sym c.is_higher.ensures ∙ w.if-is_higher.false in
          ap (λ x. x.items) w.higher-is ∙ (c.tasks.invariant ∙ (sym (higher_no tasks p k below) ∙ next)))
    ]

pub returns : goal.returns
returns c =
    let tasks : List Task = c.args.set.now.tasks in
    let p : ℕ = (task_at tasks c.args.task).priority in
    let count : c.tasks.k ≡ length tasks = omega (arith, c.tasks-test.false, c.tasks.auto.k-end, c.count-k-end.ensures.count, ap length c.graphs.ensures.graphs, length-map tasks digraph_of) in
    c.tasks.invariant ∙ ap (λ (n : ℕ). higher_before tasks p n) count
