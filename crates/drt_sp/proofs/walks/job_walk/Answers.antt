use Rattle.std.proofs.Common.{◌≡◌, ◌<◌, ◌≤◌, List, [], ◌∷◌, ◌++◌, ℕ, get_or, refl, sym, ap, arith, ◌∙◌}
use Rattle.std.proofs.lemmas.Bool.{eq-eqb, le-ltb, lt-ltb, ne_eqb}
use Rattle.std.proofs.lemmas.List.{get_or_default}
use Rattle.drt_model.specs.declared.tasks.Task.{Task}
use Rattle.drt_busy.specs.Choice.{no_task, task_at}
use Rattle.drt_busy.specs.WalkReleases.{with_job}
use Rattle.drt_tree.proofs.Trees.{if_ok_more}
use Rattle.drt_sp.specs.Choices.{chosen}
use Rattle.drt_sp.proofs.walks.job_walk.Goals.{then-k-shown+in_ok-push, else-k-shown}
use Rattle.drt_sp.proofs.walks.job_walk.Goals as goal

job_higher : (tasks : List Task) (walks : ℕ → List ℕ) (j v k : ℕ) → (task_at tasks k).priority < (task_at tasks j).priority → with_job tasks walks j v k ≡ walks k
unfolding with_job
job_higher tasks walks j v k less = rw (lt-ltb (task_at tasks k).priority (task_at tasks j).priority less) refl

job_here : (tasks : List Task) (walks : ℕ → List ℕ) (j v k : ℕ) → (task_at tasks j).priority ≤ (task_at tasks k).priority → k ≡ j → with_job tasks walks j v k ≡ v ∷ []
unfolding with_job
job_here tasks walks j v k le e = rw (le-ltb (task_at tasks k).priority (task_at tasks j).priority le, eq-eqb k j e) refl

job_nowhere : (tasks : List Task) (walks : ℕ → List ℕ) (j v k : ℕ) → (task_at tasks j).priority ≤ (task_at tasks k).priority → (k ≡ j → ⊥) → with_job tasks walks j v k ≡ []
unfolding with_job
job_nowhere tasks walks j v k le ne = rw (le-ltb (task_at tasks k).priority (task_at tasks j).priority le, ne_eqb k j ne) refl

pub returns-then-tasks-k : goal.returns-then-tasks-k
returns-then-tasks-k c =
    let tasks : List Task = c.args.set.now.tasks in
    let j = c.args.shown.now.task in
    let v = c.args.shown.now.vertex in
    let k = c.args.k in
    let f = c.args.forest.now in
    let tuple : List ℕ = c.args.shown.now.tuple in
    let a = get_or_default tasks k c.index-tasks-k.result no_task c.requires.here in
    let b = get_or_default tasks j c.index-tasks-shown.result no_task c.requires.task in
    let same = c.tasks-tasks.ensures.tasks in
    let own : (get_or c.tasks-tasks.result.now k c.index-tasks-k.result).priority ≡ (get_or tasks k c.index-tasks-k.result).priority
    = ap (λ (ts : List Task). (get_or ts k c.index-tasks-k.result).priority) same in
    let shown : (get_or c.tasks-tasks.result.now j c.index-tasks-shown.result).priority ≡ (get_or tasks j c.index-tasks-shown.result).priority
    = ap (λ (ts : List Task). (get_or ts j c.index-tasks-shown.result).priority) same in
    let less : (task_at tasks k).priority < (task_at tasks j).priority = omega (arith, own, shown, c.if-tasks-k.true, ap (λ (t : Task). t.priority) a, ap (λ (t : Task). t.priority) b) in
    if_ok_more _ _ c.chosen_walk.result (λ row is.
    is tasks c.graphs-graphs.ensures.graphs ∙ (ap (λ (ts : List ℕ). chosen tasks f c.args.end c.args.order.now ts k) c.as_slice.ensures
    ∙ sym (job_higher tasks (chosen tasks f c.args.end c.args.order.now tuple) j v k less))
    ) c.chosen_walk.ensures

pub returns : goal.returns
returns c =
    let tasks : List Task = c.args.set.now.tasks in
    let j = c.args.shown.now.task in
    let v = c.args.shown.now.vertex in
    let k = c.args.k in
    let walks = chosen tasks c.args.forest.now c.args.end c.args.order.now c.args.shown.now.tuple in
    let a = get_or_default tasks k c.index-tasks-k.result no_task c.requires.here in
    let b = get_or_default tasks j c.index-tasks-shown.result no_task c.requires.task in
    let same = c.tasks-tasks.ensures.tasks in
    let own : (get_or c.tasks-tasks.result.now k c.index-tasks-k.result).priority ≡ (get_or tasks k c.index-tasks-k.result).priority
    = ap (λ (ts : List Task). (get_or ts k c.index-tasks-k.result).priority) same in
    let shown : (get_or c.tasks-tasks.result.now j c.index-tasks-shown.result).priority ≡ (get_or tasks j c.index-tasks-shown.result).priority
    = ap (λ (ts : List Task). (get_or ts j c.index-tasks-shown.result).priority) same in
    let le : (task_at tasks j).priority ≤ (task_at tasks k).priority = omega (arith, own, shown, c.if-tasks-k.false, ap (λ (t : Task). t.priority) a, ap (λ (t : Task). t.priority) b) in
    elim c.if-k-shown.branch [
      | then-k-shown+in_ok-push w ↦
          c.from_vec.ensures ∙ (ap (λ x. x.items) w.walk-is ∙ (w.in_ok-push.ensures.items ∙ (ap (λ (xs : List ℕ). xs ++ v ∷ []) c.new-walk.ensures.items
          ∙ sym (job_here tasks walks j v k le w.if-k-shown.true))))
      | else-k-shown w ↦ c.from_vec.ensures ∙ (ap (λ x. x.items) w.walk-is ∙ (c.new-walk.ensures.items ∙ sym (job_nowhere tasks walks j v k le w.if-k-shown.false)))
    ]
