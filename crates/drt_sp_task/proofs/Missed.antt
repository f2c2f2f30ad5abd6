-- Where no time passes for a vertex and a tuple of leaves, the releases of the walks that the tuple names make the vertex's job miss,
-- whatever becomes of the jobs of higher priority. It stands on the law of `drt_busy` that says so of walks.
use Rattle.std.proofs.Common.{inl, inr, ◌≡◌, ℕ, ◌+◌, ◌<◌, ◌≤◌, List, length, get_or, All, refl, sym, ap, ◌∙◌, subst, arith}
use Rattle.std.specs.Prelude.{Some, slice_get}
use Rattle.std.proofs.lemmas.Bool.{cases_eq, cases_lt}
use Rattle.std.proofs.lemmas.List.{get_or_default}
use Rattle.drt_model.specs.declared.jobs.Miss.{Miss}
use Rattle.drt_model.specs.declared.jobs.Release.{Release}
use Rattle.drt_model.specs.declared.tasks.Task.{Task}
use Rattle.drt_model.specs.Constrained.{AreConstrained}
use Rattle.drt_model.specs.Digraph.{vertex_count}
use Rattle.drt_model.specs.Legal.{IsLegal}
use Rattle.drt_model.specs.Limits.{IsTaskSet}
use Rattle.drt_model.specs.Misses.{miss_of}
use Rattle.drt_model.specs.Schedulable.{job_of, jobs_of, priority_of}
use Rattle.drt_model.specs.Trace.{job_at}
use Rattle.drt_model.specs.Walk.{deadline, wcet}
use Rattle.drt_model.proofs.JobLemmas.{job_at-jobs_of, no_release}
use Rattle.drt_busy.specs.Choice.{AreWalks, graph_at, requests, task_at}
use Rattle.drt_busy.specs.Decide.{RequestsMiss, TimesSufficeForTask}
use Rattle.drt_busy.specs.WalkReleases.{release_at, with_job}
use Rattle.drt_busy.proofs.EdfWalks.{deadline_here}
use Rattle.drt_busy.proofs.FixedWalks.{priority_here}
use Rattle.drt_tree.specs.Tree.{Plain}
use Rattle.drt_sp.specs.Choices.{chosen}
use Rattle.drt_check_trees.specs.Order.{IsOrder}
use Rattle.drt_sp.specs.ChoiceLaws.{no_releases}
use Rattle.drt_sp.proofs.Asked.{requests_asked}
use Rattle.drt_sp.proofs.ChosenLeaves.{below_length, chosen_asked, chosen_walks}
use Rattle.drt_sp.proofs.Members.{first_job, is_higher, job_releases, of_walks}
use Rattle.drt_claims.specs.Trees.{greatest_deadline}
use Rattle.drt_sp.specs.Answers.{IsTupleFor}
use Rattle.drt_sp_task.specs.Task.{IsTaskMiss}
use Rattle.drt_sp_task.specs.Trees.{IsFailing}
use Rattle.drt_sp_task.specs.declared.given.Given.{Given}
use Rattle.drt_sp.specs.declared.walks.VertexTuple.{VertexTuple}

-- The first job of a task, by the name of a miss.
abbrev pub first_miss : ℕ → ℕ → Miss
first_miss k d = record { task = k; index = 0; deadline = d }

module _ (tasks : List Task) (walks : ℕ → List ℕ) (k v : ℕ) where
  -- The miss of the vertex's job names it.
  named : k < length tasks → (j : ℕ) → j < length (job_releases tasks walks k v)
      → get_or (job_releases tasks walks k v) j (release_at (graph_at tasks k) k 0 v) ≡ release_at (graph_at tasks k) k 0 v
      → first_miss k (deadline (graph_at tasks k) v) ≡ miss_of (jobs_of tasks (job_releases tasks walks k v)) j
  named h j l here =
      let rs = job_releases tasks walks k v in
      let r = release_at (graph_at tasks k) k 0 v in
      let job = job_at-jobs_of tasks rs j l ∙ ap (job_of tasks) (get_or_default rs j no_release r l ∙ here) in
      let task : (job_at (jobs_of tasks rs) j).task ≡ k = ap (λ x. x.task) job in
      let index = first_job tasks walks k v j l task in
      let due : (job_at (jobs_of tasks rs) j).deadline ≡ deadline (graph_at tasks k) v = omega (arith, ap (λ x. x.deadline) job, deadline_here tasks k h 0 0 r refl) in
      cc (task, index, due)

  -- No release is of a task of lower priority.
  none_lower : IsLegal tasks (job_releases tasks walks k v) → All (λ r. priority_of tasks r ≤ (task_at tasks k).priority) (job_releases tasks walks k v)
  none_lower legal i d l =
      let r = get_or (job_releases tasks walks k v) i d in
      let same : priority_of tasks r ≡ (task_at tasks r.task).priority = priority_here tasks r.task (legal.of_tasks i d l) 0 0 0 r refl in
      elim (cases_eq r.task k) [
        | inl e ↦ omega (arith, same, ap (λ n. (task_at tasks n).priority) e)
        | inr ne ↦ omega (arith, same, is_higher tasks walks k v r (of_walks tasks (with_job tasks walks k v) (length tasks) i d l) ne)
      ]

  -- Where no time has room for the vertex and these walks, these are releases that miss.
  walks_miss : RequestsMiss → TimesSufficeForTask → (version : ℕ) → IsTaskSet version tasks → AreConstrained tasks → k < length tasks → v < vertex_count (graph_at tasks k)
      → AreWalks tasks walks
      → ((t : ℕ) → 1 ≤ t → t ≤ deadline (graph_at tasks k) v → t < wcet (graph_at tasks k) v + requests tasks walks (task_at tasks k).priority (length tasks) t)
      → IsTaskMiss tasks k (job_releases tasks walks k v) (first_miss k (deadline (graph_at tasks k) v))
  walks_miss miss suffice version limits constrained h w are over =
      let rs = job_releases tasks walks k v in
      let (legal, (j, l, here, misses)) = miss version tasks limits k v h w walks are over in
      let is = named h j l here in
      record {
        legal = legal;
        above = none_lower legal;
        job = j;
        here = l;
        is = is;
        of_task = refl;
        misses = misses;
        fails = λ passes. suffice version tasks limits constrained k passes rs legal j l (sym (ap (λ m. m.task) is)) misses;
      }

-- Where no time passes for a vertex and its tuple of leaves, the walks that the tuple names leave no time.
module _ (g : Given) (order_is : IsOrder g.set.now.tasks g.order.now) (f : Plain) (failed : VertexTuple) (failing : IsFailing g f failed) where
  over : (t : ℕ) → 1 ≤ t → t ≤ deadline (graph_at g.set.now.tasks failed.task) failed.vertex
      → t < wcet (graph_at g.set.now.tasks failed.task) failed.vertex
      + requests g.set.now.tasks (chosen g.set.now.tasks f (deadline (graph_at g.set.now.tasks failed.task) failed.vertex) g.order.now failed.tuple)
      (task_at g.set.now.tasks failed.task).priority (length g.set.now.tasks) t
  over t one by =
      let tasks = g.set.now.tasks in
      let order = g.order.now in
      let k = failed.task in
      let v = failed.vertex in
      let tuple = failed.tuple in
      let d = deadline (graph_at tasks k) v in
      let walks = chosen tasks f d order tuple in
      let for : IsTupleFor g.set.now order f k v tuple = failing.tuple in
      let at : slice_get order (length tuple) ≡ Some k = ap (slice_get order) (below_length f tuple for.roots for.below) ∙ for.posed.subject.at in
      let asks = requests_asked tasks walks order tuple k t order_is at in
      let sums = chosen_asked tasks f d (greatest_deadline tasks) order for.roots tuple order_is.rising for.posed.trees for.below t one by (omega (arith, for.posed.subject.near)) in
      elim (cases_lt t (wcet (graph_at tasks k) v + requests tasks walks (task_at tasks k).priority (length tasks) t)) [
        | inl lt ↦ lt
        | inr fits ↦ absurd (failing.none t (record { from = one; to = by; passes = omega (arith, asks, sums) }))
      ]

  -- So the releases of these walks are a miss of the task.
  pub missed : RequestsMiss → TimesSufficeForTask → AreConstrained g.set.now.tasks → (releases : List Release) (miss : Miss)
      → releases ≡ no_releases g.set.now.tasks f g.order.now failed.tuple failed.task failed.vertex
      → miss ≡ first_miss failed.task (deadline (graph_at g.set.now.tasks failed.task) failed.vertex) → IsTaskMiss g.set.now.tasks failed.task releases miss
  missed law suffice constrained releases miss same named =
      let tasks = g.set.now.tasks in
      let order = g.order.now in
      let k = failed.task in
      let v = failed.vertex in
      let for : IsTupleFor g.set.now order f k v failed.tuple = failing.tuple in
      let d = deadline (graph_at tasks k) v in
      let walks = chosen tasks f d order failed.tuple in
      let are = chosen_walks tasks f d (greatest_deadline tasks) order for.roots failed.tuple for.posed.trees for.below in
      let no = walks_miss tasks walks k v law suffice g.set.now.version for.posed.limits constrained for.task for.posed.subject.vertex are over in
      subst (λ rs. IsTaskMiss tasks k rs miss) (sym same) (subst (λ m. IsTaskMiss tasks k (job_releases tasks walks k v) m) (sym named) no)
