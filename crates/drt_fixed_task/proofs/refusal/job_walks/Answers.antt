-- One walk more.
use Rattle.std.proofs.Common.{◌≡◌, suc, ◌+◌, true, false, ltb, List, [], ◌∷◌, ℕ, length, get_or, sym, ap, arith, ◌∙◌}
use Rattle.std.proofs.Math.Numerals.{add-one}
use Rattle.std.proofs.lemmas.List.{length-append}
use Rattle.drt_model.specs.declared.tasks.Task.{Task}
use Rattle.drt_busy.specs.Choice.{task_at}
use Rattle.drt_fixed_task.specs.Higher.{higher_before, job_walk_in_file_order}
use Rattle.drt_fixed_task.proofs.HigherTasks.{higher_few, higher_no, higher_yes}
use Rattle.drt_fixed_task.proofs.Lists.{push_each}
use Rattle.drt_fixed_task.proofs.refusal.job_walks.Goals.{then-is_higher, else-is_higher}
use Rattle.drt_fixed_task.proofs.refusal.job_walks.Goals as goal

pub overflow_add-place : goal.overflow_add-place
overflow_add-place c =
    let tasks : List Task = c.args.given.set.now.tasks in
    let few = higher_few tasks (task_at tasks c.args.given.task).priority c.tasks.k in
    omega (arith, c.tasks.invariant.place, few, c.tasks-test.true, c.count-k-end.ensures.count, c.count-k-end.ensures.kept.few)

pub tasks-preserved : goal.tasks-preserved
tasks-preserved c =
    let tasks : List Task = c.args.given.set.now.tasks in
    let p : ℕ = (task_at tasks c.args.given.task).priority in
    let k : ℕ = c.tasks.k in
    let items = c.in_ok-push.ensures.items in
    let before = c.tasks.invariant in
    let long : length (higher_before tasks p (k + 1)) ≡ length (higher_before tasks p (suc k)) = ap (λ (n : ℕ). length (higher_before tasks p n)) (add-one k) in
    let chosen : ℕ → List ℕ = job_walk_in_file_order tasks c.args.cut.walks.now c.args.given.task c.args.cut.vertex c.args.cut.end in
    record {
      place = elim c.if-is_higher.branch [
        | then-is_higher w ↦
            (let above : ltb (task_at tasks k).priority p ≡ true = sym c.is_higher.ensures ∙ w.if-is_higher.true in
            omega (arith, w.place-is, before.place, long, ap length (higher_yes tasks p k above), length-append (higher_before tasks p k) (k ∷ [])))
        | else-is_higher w ↦
            (let below : ltb (task_at tasks k).priority p ≡ false = sym c.is_higher.ensures ∙ w.if-is_higher.false in
            omega (arith, w.place-is, before.place, long, ap length (higher_no tasks p k below)))
      ];
      count = omega (arith, ap length items, length-append c.tasks.chosen.items (c.in_ok-job_walk.field-0 ∷ []), before.count);
      each = λ i l. (
          let more = push_each [] chosen c.tasks.chosen.items k c.in_ok-job_walk.field-0 before.count before.each c.in_ok-job_walk.ensures i l in
          ap (λ (xs : List (List ℕ)). get_or xs i []) items ∙ more
          );
    }
