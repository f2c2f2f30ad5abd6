-- Where no time passes for a tuple of leaves the releases of its walks make the vertex's job miss, and no job misses before.
use Rattle.std.proofs.Common.{inl, inr, ◌≡◌, ℕ, ◌+◌, ◌<◌, ◌≤◌, List, length, get_or, Contains, Some, slice_get, refl, sym, ap, ◌∙◌, subst, arith}
use Rattle.std.specs.List.{range_with_len}
use Rattle.std.proofs.lemmas.Bool.{cases_eq, cases_lt, cases_order}
use Rattle.std.proofs.lemmas.List.{get_or_default}
use Rattle.std.proofs.lemmas.List.FromFn.{get_or-range_with_len, length-range_with_len}
use Rattle.std.proofs.lemmas.List.Sorted.{Contains-permutation}
use Rattle.std.proofs.lemmas.Option.{get_or_from_slice_get, slice_get_within, slice_get-get_or}
use Rattle.drt_model.specs.declared.jobs.Policy.TheVariants.{Fixed}
use Rattle.drt_model.specs.declared.jobs.Release.{Release}
use Rattle.drt_model.specs.declared.tasks.Task.{Task}
use Rattle.drt_model.specs.Constrained.{AreConstrained}
use Rattle.drt_model.specs.Limits.{IsTaskSet}
use Rattle.drt_model.specs.Legal.{IsLegal}
use Rattle.drt_model.specs.Misses.{IsLeastMiss}
use Rattle.drt_model.specs.Schedulable.{job_of, jobs_of}
use Rattle.drt_model.specs.Trace.{Misses, job_at}
use Rattle.drt_model.specs.Walk.{deadline, wcet}
use Rattle.drt_model.proofs.JobLemmas.{job_at-jobs_of, length-jobs_of, no_release}
use Rattle.drt_busy.specs.Choice.{graph_at, requests, task_at}
use Rattle.drt_busy.specs.Decide.{RequestsMiss, TimesSufficeForTask}
use Rattle.drt_busy.specs.WalkReleases.{release_at, with_job}
use Rattle.drt_busy.proofs.EdfWalks.{deadline_here}
use Rattle.drt_sp.specs.Choices.{FirstPass, chosen}
use Rattle.drt_check_trees.specs.Order.{IsOrder}
use Rattle.drt_sp.specs.ChoiceLaws.{LeavesMiss}
use Rattle.drt_sp.proofs.Asked.{requests_asked}
use Rattle.drt_sp.proofs.ChosenLeaves.{below_length, chosen_asked, chosen_walks}
use Rattle.drt_sp.proofs.Covered.{order_within}
use Rattle.drt_sp.proofs.Members.{first_job, is_higher, is_job, job_releases, of_walks}

-- a task of higher priority than the one at place m of the order stands at an earlier place
stands_first : (tasks : List Task) (order : List ℕ) → IsOrder tasks order → (m k a : ℕ) → slice_get order m ≡ Some k → a < length tasks
    → (task_at tasks a).priority < (task_at tasks k).priority → (i : ℕ) × (i < m) × (slice_get order i ≡ Some a)
stands_first tasks order is m k a at h higher =
    let numbers = range_with_len 0 (length tasks) in
    let number : Contains numbers a = (a, omega (arith, length-range_with_len 0 (length tasks)), get_or-range_with_len 0 (length tasks) a a h ∙ omega arith) in
    let (i, l, here) = Contains-permutation numbers order a is.permutation number in
    let there : get_or order m a ≡ k = get_or_from_slice_get order m k a at in
    let found : slice_get order i ≡ Some a = slice_get-get_or order i a l ∙ ap (λ x. Some x) here in
    let same_p : (task_at tasks (get_or order i a)).priority ≡ (task_at tasks a).priority = ap (λ x. (task_at tasks x).priority) here in
    let there_p : (task_at tasks (get_or order m a)).priority ≡ (task_at tasks k).priority = ap (λ x. (task_at tasks x).priority) there in
    elim (cases_order i m) [
      | inl e ↦ absurd (omega (arith, ap (λ x. (task_at tasks (get_or order x a)).priority) e, same_p, there_p))
      | inr (inl lt) ↦ (i, lt, found)
      | inr (inr gt) ↦ absurd (omega (arith, is.rising m i a gt l, same_p, there_p))
    ]

module _ (tasks : List Task) (walks : ℕ → List ℕ) (k v : ℕ) (h : k < length tasks) where
  -- the job of the vertex is due at its deadline
  job_due : (i : ℕ) → i < length (job_releases tasks walks k v) → get_or (job_releases tasks walks k v) i no_release ≡ release_at (graph_at tasks k) k 0 v
      → (job_at (jobs_of tasks (job_releases tasks walks k v)) i).deadline ≡ deadline (graph_at tasks k) v
  job_due i l e =
      let r = release_at (graph_at tasks k) k 0 v in
      let job = job_at-jobs_of tasks (job_releases tasks walks k v) i l ∙ ap (job_of tasks) e in
      omega (arith, ap (λ x. x.deadline) job, deadline_here tasks k h 0 0 r refl)

  -- where no job of a task of higher priority misses, the vertex's job is one of least deadline among those that miss
  module _ (spared : (i : ℕ) → i < length (job_releases tasks walks k v) → (task_at tasks (get_or (job_releases tasks walks k v) i no_release).task).priority < (task_at tasks k).priority
      → ¬ Misses Fixed (jobs_of tasks (job_releases tasks walks k v)) i) where
    missed_due : (i : ℕ) → i < length (job_releases tasks walks k v) → Misses Fixed (jobs_of tasks (job_releases tasks walks k v)) i
        → (job_at (jobs_of tasks (job_releases tasks walks k v)) i).deadline ≡ deadline (graph_at tasks k) v
    missed_due i l miss =
        let r = get_or (job_releases tasks walks k v) i no_release in
        let of_walk = of_walks tasks (with_job tasks walks k v) (length tasks) i no_release l in
        elim (cases_eq r.task k) [
          | inl e ↦ job_due i l (is_job tasks walks k v r of_walk e)
          | inr ne ↦ absurd (spared i l (is_higher tasks walks k v r of_walk ne) miss)
        ]

    least_miss : (j : ℕ) → j < length (job_releases tasks walks k v) → get_or (job_releases tasks walks k v) j (release_at (graph_at tasks k) k 0 v) ≡ release_at (graph_at tasks k) k 0 v
        → Misses Fixed (jobs_of tasks (job_releases tasks walks k v)) j
        → IsLeastMiss Fixed (jobs_of tasks (job_releases tasks walks k v)) (record { task = k; index = 0; deadline = deadline (graph_at tasks k) v })
    least_miss j l here miss =
        let rs = job_releases tasks walks k v in
        let r = release_at (graph_at tasks k) k 0 v in
        let here' : get_or rs j no_release ≡ r = get_or_default rs j no_release r l ∙ here in
        let task : (job_at (jobs_of tasks rs) j).task ≡ k = ap (λ x. x.task) (job_at-jobs_of tasks rs j l ∙ ap (job_of tasks) here') in
        let index = first_job tasks walks k v j l task in
        let due = job_due j l here' in
        record {
          job = j;
          here = omega (arith, length-jobs_of tasks rs);
          is = cc (task, index, due);
          misses = miss;
          least = λ i low missed. omega (arith, due, missed_due i (omega (arith, length-jobs_of tasks rs)) missed);
        }

-- where a time passes for each vertex of the tasks at the first m places, no job of a task of higher priority than the next one misses
spared : (version : ℕ) (tasks : List Task) → IsTaskSet version tasks → AreConstrained tasks → TimesSufficeForTask
    → (order : List ℕ) → IsOrder tasks order → (m k : ℕ) → slice_get order m ≡ Some k → FirstPass tasks order m
    → (rs : List Release) → IsLegal tasks rs → (i : ℕ) → i < length rs → (task_at tasks (get_or rs i no_release).task).priority < (task_at tasks k).priority
    → ¬ Misses Fixed (jobs_of tasks rs) i
spared version tasks ok constrained suffice order is m k at first rs legal i l higher miss =
    let a = (get_or rs i no_release).task in
    let (place, lt, here) = stands_first tasks order is m k a at (legal.of_tasks i no_release l) higher in
    let task = ap (λ x. x.task) (job_at-jobs_of tasks rs i l) in
    suffice version tasks ok constrained a (λ u low ws are. first place a u lt here low ws are) rs legal i l task miss

pub leaves_miss : RequestsMiss → TimesSufficeForTask → LeavesMiss
leaves_miss requests_miss suffice version tasks order bound f roots k v posed constrained first tuple below none =
    let g = graph_at tasks k in
    let d = deadline g v in
    let is = posed.order_is in
    let at = posed.subject.at in
    let place = slice_get_within order (length roots) k at in
    let h : k < length tasks = subst (λ x. x < length tasks) (get_or_from_slice_get order (length roots) k k at) (order_within tasks order is (length roots) k place) in
    let walks = chosen tasks f d order tuple in
    let are = chosen_walks tasks f d bound order roots tuple posed.trees below in
    let at' : slice_get order (length tuple) ≡ Some k = subst (λ n. slice_get order n ≡ Some k) (sym (below_length f tuple roots below)) at in
    let over : (t : ℕ) → 1 ≤ t → t ≤ d → t < wcet g v + requests tasks walks (task_at tasks k).priority (length tasks) t =
    λ t one by. elim (cases_lt t (wcet g v + requests tasks walks (task_at tasks k).priority (length tasks) t)) [
      | inl lt ↦ lt
      | inr fits ↦ absurd (
          let asks = requests_asked tasks walks order tuple k t is at' in
          let sums = chosen_asked tasks f d bound order roots tuple is.rising posed.trees below t one by (omega (arith, posed.subject.near)) in
          none t (record { from = one; to = by; passes = omega (arith, asks, sums) })
          )
    ] in
    let (legal, missed) = requests_miss version tasks posed.limits k v h posed.subject.vertex walks are over in
    let (j, l, here, miss) = missed in
    let rs = job_releases tasks walks k v in
    let none_first = spared version tasks posed.limits constrained suffice order is (length roots) k at first rs legal in
    (legal, least_miss tasks walks k v h none_first j l here miss)
