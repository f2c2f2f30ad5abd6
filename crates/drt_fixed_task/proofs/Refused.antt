-- Walks that leave a vertex no time, cut at its deadline: their releases and one of the vertex are legal, and the vertex's job misses.
use Rattle.std.proofs.Common.{inl, inr, ◌≡◌, ℕ, zero, suc, ◌+◌, ◌<◌, ◌≤◌, List, ◌++◌, length, get_or, refl, sym, ap, ◌∙◌, subst, arith}
use Rattle.std.specs.List.{All}
use Rattle.std.proofs.lemmas.Bool.{cases_eq}
use Rattle.std.proofs.lemmas.List.{get_or_default}
use Rattle.drt_model.specs.declared.jobs.Miss.{Miss}
use Rattle.drt_model.specs.declared.jobs.Release.{Release}
use Rattle.drt_model.specs.declared.tasks.Task.{Task}
use Rattle.drt_model.specs.Digraph.{vertex_count}
use Rattle.drt_model.specs.Legal.{IsLegal}
use Rattle.drt_model.specs.Limits.{IsTaskSet}
use Rattle.drt_model.specs.Schedulable.{job_of, jobs_of, priority_of}
use Rattle.drt_model.specs.Trace.{job_at}
use Rattle.drt_model.specs.Walk.{deadline, wcet}
use Rattle.drt_model.proofs.JobLemmas.{job_at-jobs_of, no_release}
use Rattle.drt_busy.specs.Choice.{graph_at, requests, task_at}
use Rattle.drt_busy.specs.Decide.{RequestsMiss}
use Rattle.drt_busy.specs.WalkReleases.{all_releases, release_at, releases_of, with_job}
use Rattle.drt_busy.proofs.Cuts.{are_cut, cut_sums, cut_walks}
use Rattle.drt_busy.proofs.EdfWalks.{deadline_here}
use Rattle.drt_busy.proofs.FixedWalks.{priority_here}
use Rattle.drt_sp.proofs.Members.{IsOfWalk, first_job, is_higher, job_releases, of_walks}
use Rattle.drt_sp_task.specs.Task.{IsTaskMiss, TaskPasses}
use Rattle.drt_fixed_task.specs.Walks.{LeaveNoTime}

-- The releases of walks that are the same.
pub same_releases : (tasks : List Task) (walks others : ℕ → List ℕ) (n : ℕ) → ((i : ℕ) → i < n → walks i ≡ others i) → all_releases tasks walks n ≡ all_releases tasks others n
unfolding all_releases
same_releases tasks walks others zero same = refl
same_releases tasks walks others (suc i) same =
    ap (λ rs. rs ++ releases_of (graph_at tasks i) i (walks i)) (same_releases tasks walks others i (λ j l. same j (omega arith)))
    ∙ ap (λ w. all_releases tasks others i ++ releases_of (graph_at tasks i) i w) (same i (omega arith))

module _ (tasks : List Task) (walks : ℕ → List ℕ) (k v : ℕ) (task : k < length tasks) where
  -- None of the releases is of a task of lower priority.
  none_below : IsLegal tasks (job_releases tasks walks k v) → All (λ r. priority_of tasks r ≤ (task_at tasks k).priority) (job_releases tasks walks k v)
  none_below legal i d l =
      let r : Release = get_or (job_releases tasks walks k v) i d in
      let of_walk : IsOfWalk tasks (with_job tasks walks k v) r = of_walks tasks (with_job tasks walks k v) (length tasks) i d l in
      let priority : priority_of tasks r ≡ (task_at tasks r.task).priority = priority_here tasks r.task (legal.of_tasks i d l) 0 0 0 r refl in
      elim (cases_eq r.task k) [
        | inl e ↦ omega (arith, priority, ap (λ n. (task_at tasks n).priority) e)
        | inr ne ↦ omega (arith, priority, is_higher tasks walks k v r of_walk ne)
      ]

-- The miss of the vertex's job.
abbrev pub miss_at : List Task → ℕ → ℕ → Miss
miss_at tasks k v = record { task = k; index = 0; deadline = deadline (graph_at tasks k) v }

module _ (version : ℕ) (tasks : List Task) (limits : IsTaskSet version tasks) (k v : ℕ) (task : k < length tasks) (vertex : v < vertex_count (graph_at tasks k))
    (walks : ℕ → List ℕ) (leave : LeaveNoTime tasks walks k v) where
  -- The walks, cut.
  abbrev cut_at : ℕ → List ℕ
  cut_at = cut_walks tasks walks (deadline (graph_at tasks k) v)

  cut_over : (t : ℕ) → 1 ≤ t → t ≤ deadline (graph_at tasks k) v
      → t < wcet (graph_at tasks k) v + requests tasks cut_at (task_at tasks k).priority (length tasks) t
  cut_over t one by = omega (arith, leave.none t one by, cut_sums tasks walks (deadline (graph_at tasks k) v) (task_at tasks k).priority (length tasks) t by)

  -- Some walks leave no time, so the task doesn't pass.
  fails : TaskPasses tasks k → ⊥
  fails passes =
      let found = passes v vertex walks leave.are in
      let fits = found.3 in
      omega (arith, fits, leave.none found.0 found.1 found.2)

  -- The releases of the cut walks are a no.
  pub refused : RequestsMiss → IsTaskMiss tasks k (job_releases tasks cut_at k v) (miss_at tasks k v)
  refused requests_miss =
      let rs : List Release = job_releases tasks cut_at k v in
      let r : Release = release_at (graph_at tasks k) k 0 v in
      let (legal, missed) = requests_miss version tasks limits k v task vertex cut_at (are_cut tasks walks (deadline (graph_at tasks k) v) leave.are) cut_over in
      let (j, l, here, misses) = missed in
      let at : get_or rs j no_release ≡ r = get_or_default rs j no_release r l ∙ here in
      let job = job_at-jobs_of tasks rs j l ∙ ap (job_of tasks) at in
      let of_task : (job_at (jobs_of tasks rs) j).task ≡ k = ap (λ x. x.task) job in
      let index = first_job tasks cut_at k v j l of_task in
      let due : (job_at (jobs_of tasks rs) j).deadline ≡ deadline (graph_at tasks k) v = omega (arith, ap (λ x. x.deadline) job, deadline_here tasks k task 0 0 r refl) in
      record {
        legal = legal;
        above = none_below tasks cut_at k v task legal;
        job = j;
        here = l;
        is = cc (of_task, index, due);
        of_task = refl;
        misses = misses;
        fails = fails;
      }

  -- The same releases and the same miss.
  pub refusal_is : RequestsMiss → (n : ℕ) (releases : List Release) → n ≡ deadline (graph_at tasks k) v → releases ≡ job_releases tasks cut_at k v
      → IsTaskMiss tasks k releases (record { task = k; index = 0; deadline = n })
  refusal_is requests_miss n releases due are =
      let is = subst (λ (rs : List Release). IsTaskMiss tasks k rs (miss_at tasks k v)) (sym are) (refused requests_miss) in
      subst (λ (d : ℕ). IsTaskMiss tasks k releases (record { task = k; index = 0; deadline = d })) (sym due) is
