-- What decides a task set: both ways, under both policies.
use Rattle.std.proofs.Common.{inl, inr, ◌⊎◌, ◌≡◌, ℕ, zero, suc, ◌+◌, ◌<◌, ◌≤◌, true, false, ltb, List, [], ◌∷◌, length, get_or, Contains, refl, sym, ap, ◌∙◌, subst, arith}
use Rattle.std.proofs.lemmas.Bool.{cases_eq, cases_lt, cases_Bool, eq-eqb, ne_eqb, le-ltb}
use Rattle.std.proofs.lemmas.List.{get_or_default}
use Rattle.std.proofs.lemmas.List.Elements.{Contains-append_left, Contains-append_right}
use Rattle.drt_model.specs.declared.jobs.Job.{Job}
use Rattle.drt_model.specs.declared.jobs.Policy.TheVariants.{Edf}
use Rattle.drt_model.specs.declared.jobs.Release.{Release}
use Rattle.drt_model.specs.declared.tasks.Task.{Task}
use Rattle.drt_model.specs.Constrained.{AreConstrained}
use Rattle.drt_model.specs.Digraph.{vertex_count, no_vertex}
use Rattle.drt_model.specs.Legal.{IsLegal}
use Rattle.drt_model.specs.Limits.{IsTaskSet, IsVertex}
use Rattle.drt_model.specs.Schedulable.{job_of, jobs_of}
use Rattle.drt_model.specs.Trace.{job_at}
use Rattle.drt_model.specs.Walk.{deadline, wcet, IsWalk, request_of}
use Rattle.drt_model.proofs.JobLemmas.{no_release, length-jobs_of, job_at-jobs_of}
use Rattle.drt_busy.specs.Choice.{AreWalks, efforts, graph_at, no_task, requests, task_at}
use Rattle.drt_busy.specs.Decide.{DeadlinesDecide, DemandMisses, RequestsMiss, TimesDecide}
use Rattle.drt_busy.specs.Needs.{AreTimed, is_above, is_due, needs}
use Rattle.drt_busy.specs.WalkReleases.{all_releases, release_at, releases_from, releases_of, with_job}
use Rattle.drt_busy.proofs.EdfWalks.{deadline_here, deadlines_suffice, due_after, window_due}
use Rattle.drt_busy.proofs.FixedWalks.{asked, priority_here, times_suffice}
use Rattle.drt_busy.proofs.Laws.{no_time_misses, overload_misses}
use Rattle.drt_busy.specs.PartWalk.{PartsFollowWalks}
use Rattle.drt_busy.proofs.PartWalk.{part_walk, part_work}
use Rattle.drt_busy.proofs.Window.{within_walk}
use Rattle.drt_busy.proofs.WalkReleases.{releases_above, releases_due, releases_legal}

-- the jobs of legal releases are due after their releases
timed : (version : ℕ) (tasks : List Task) → IsTaskSet version tasks → AreConstrained tasks → (rs : List Release) → IsLegal tasks rs → AreTimed (jobs_of tasks rs)
timed version tasks ok constrained rs legal j d h =
    let after = due_after version tasks ok constrained rs legal j (omega (arith, length-jobs_of tasks rs)) in
    subst (λ (job : Job). job.time < job.deadline) (get_or_default (jobs_of tasks rs) j (record { task = 0; priority = 0; time = 0; deadline = 0; need = 0 }) d h) after

pub demand_misses : DemandMisses
demand_misses version tasks ok constrained t walks are due over =
    let rs = all_releases tasks walks (length tasks) in
    let legal = releases_legal version tasks ok walks are in
    let more : t < needs (is_due 0 t) (jobs_of tasks rs) = omega (arith, over, releases_due version tasks ok walks are constrained t due) in (
      legal,
      more,
      λ policy.
          (let (j, h, by, miss) = overload_misses policy (jobs_of tasks rs) (timed version tasks ok constrained rs legal) t more in
          (j, omega (arith, length-jobs_of tasks rs), by, miss)),
    )

pub deadlines_decide : DeadlinesDecide
deadlines_decide version tasks ok constrained = (
  (λ sched t walks are due. elim (cases_lt t (efforts tasks walks (length tasks))) [
    | inr fits ↦ fits
    | inl over ↦ absurd (
        let (legal, more, misses) = demand_misses version tasks ok constrained t walks are due over in
        let (j, h, by, miss) = misses Edf in
        sched (all_releases tasks walks (length tasks)) legal j h miss
        )
  ]),
  (λ fits. deadlines_suffice version tasks ok constrained fits),
)

module _ (tasks : List Task) (walks : ℕ → List ℕ) (k v : ℕ) where
  higher_same : (i : ℕ) → ltb (task_at tasks i).priority (task_at tasks k).priority ≡ true → with_job tasks walks k v i ≡ walks i
  unfolding with_job
  higher_same i t = rw t refl

  self_alone : with_job tasks walks k v k ≡ v ∷ []
  unfolding with_job
  self_alone = let f : ltb (task_at tasks k).priority (task_at tasks k).priority ≡ false = le-ltb (task_at tasks k).priority (task_at tasks k).priority (omega arith) in rw (f, eq-eqb k k refl) refl

  other_none : (i : ℕ) → ltb (task_at tasks i).priority (task_at tasks k).priority ≡ false → (i ≡ k → ⊥) → with_job tasks walks k v i ≡ []
  unfolding with_job
  other_none i f ne = rw (f, ne_eqb i k ne) refl

  pub with_walks : AreWalks tasks walks → v < vertex_count (graph_at tasks k) → AreWalks tasks (with_job tasks walks k v)
  with_walks are here i h = elim (cases_eq i k) [
    | inl e ↦ subst (λ n. IsWalk (graph_at tasks n) (with_job tasks walks k v n)) (sym e) (subst (IsWalk (graph_at tasks k)) (sym self_alone) (here, tt))
    | inr ne ↦ elim (cases_Bool (ltb (task_at tasks i).priority (task_at tasks k).priority)) [
      | inl t ↦ subst (IsWalk (graph_at tasks i)) (sym (higher_same i t)) (are i h)
      | inr f ↦ subst (IsWalk (graph_at tasks i)) (sym (other_none i f ne)) tt
    ]
  ]

  pub with_requests : (n t : ℕ) → requests tasks (with_job tasks walks k v) (task_at tasks k).priority n t ≡ requests tasks walks (task_at tasks k).priority n t
  unfolding requests
  with_requests zero t = refl
  with_requests (suc i) t =
      let before = with_requests i t in
      elim (cases_Bool (ltb (task_at tasks i).priority (task_at tasks k).priority)) [
        | inl higher ↦ (let same = ap (λ w. request_of (graph_at tasks i) w t) (higher_same i higher) in rw higher (omega arith))
        | inr lower ↦ rw lower (omega arith)
      ]

  one_release : Contains (releases_of (graph_at tasks k) k (v ∷ [])) (release_at (graph_at tasks k) k 0 v)
  unfolding releases_from
  one_release = (0, omega arith, refl)

  pub with_member : (n : ℕ) → k < n → Contains (all_releases tasks (with_job tasks walks k v) n) (release_at (graph_at tasks k) k 0 v)
  unfolding all_releases
  with_member zero h = absurd (omega arith)
  with_member (suc i) h = elim (cases_eq i k) [
    | inl e ↦
        (let here : Contains (releases_of (graph_at tasks k) k (with_job tasks walks k v k)) (release_at (graph_at tasks k) k 0 v) = subst
        (λ w. Contains (releases_of (graph_at tasks k) k w) (release_at (graph_at tasks k) k 0 v)) (sym self_alone) one_release in
        Contains-append_right (all_releases tasks (with_job tasks walks k v) i) (releases_of (graph_at tasks i) i (with_job tasks walks k v i)) (release_at (graph_at tasks k) k 0 v)
        (subst (λ n. Contains (releases_of (graph_at tasks n) n (with_job tasks walks k v n)) (release_at (graph_at tasks k) k 0 v)) (sym e) here))
    | inr ne ↦ Contains-append_left (all_releases tasks (with_job tasks walks k v) i) (releases_of (graph_at tasks i) i (with_job tasks walks k v i))
        (release_at (graph_at tasks k) k 0 v) (with_member i (omega arith))
  ]

pub requests_miss : RequestsMiss
requests_miss version tasks ok k v h here walks are none =
    let w = with_job tasks walks k v in
    let rs = all_releases tasks w (length tasks) in
    let jobs = jobs_of tasks rs in
    let g = graph_at tasks k in
    let r = release_at g k 0 v in
    let walks' = with_walks tasks walks k v are here in
    let legal = releases_legal version tasks ok w walks' in
    let (j, l, at) = with_member tasks walks k v (length tasks) h in
    let at' : get_or rs j no_release ≡ r = get_or_default rs j no_release r l ∙ at in
    let job : job_at jobs j ≡ job_of tasks r = job_at-jobs_of tasks rs j l ∙ ap (job_of tasks) at' in
    let due : (job_at jobs j).deadline ≡ 0 + deadline g v = ap (λ x. x.deadline) job ∙ ap (λ x. 0 + x) (deadline_here tasks k h 0 0 r refl) in
    let priority : (job_at jobs j).priority ≡ (task_at tasks k).priority = ap (λ x. x.priority) job ∙ priority_here tasks k h 0 0 0 r refl in
    let time : (job_at jobs j).time ≡ 0 = ap (λ x. x.time) job in
    let need : (job_at jobs j).need ≡ wcet g v = ap (λ x. x.need) job in
    let vertex : IsVertex (get_or (task_at tasks k).vertices v no_vertex) = (ok.each k no_task h).vertices v no_vertex here in
    let some : 1 ≤ wcet g v = vertex.wcet.0 in
    let over : (t : ℕ) → 1 ≤ t → t ≤ (job_at jobs j).deadline → t < (job_at jobs j).need + needs (is_above (job_at jobs j).priority 0 t) jobs =
    λ t one by. (let n = none t one (omega arith) in
    let asks = releases_above version tasks ok w walks' (task_at tasks k).priority t in
    let same = with_requests tasks walks k v (length tasks) t in
    rw (priority, need) (omega arith)) in
    (legal, (j, l, at, no_time_misses jobs j (omega (arith, length-jobs_of tasks rs)) time (omega arith) over))

-- some t from 1 to d has f t at most t, or none has
pub search_times : (f : ℕ → ℕ) (d : ℕ) → ((t : ℕ) × (1 ≤ t) × (t ≤ d) × (f t ≤ t)) ⊎ ((t : ℕ) → 1 ≤ t → t ≤ d → t < f t)
search_times f zero = inr (λ t one by. absurd (omega arith))
search_times f (suc d) = elim (search_times f d) [
  | inl (t, one, by, fits) ↦ inl (t, one, omega arith, fits)
  | inr none ↦ elim (cases_lt (suc d) (f (suc d))) [
    | inr fits ↦ inl (suc d, omega arith, omega arith, fits)
    | inl over ↦ inr (λ t one by. elim (cases_eq t (suc d)) [
      | inl e ↦ subst (λ n. n < f n) (sym e) over
      | inr ne ↦ none t one (omega arith)
    ])
  ]
]

pub times_decide : TimesDecide
times_decide version tasks ok constrained = (
  (λ sched k v h here walks are.
      elim (search_times (λ t. wcet (graph_at tasks k) v + requests tasks walks (task_at tasks k).priority (length tasks) t) (deadline (graph_at tasks k) v)) [
        | inl found ↦ found
        | inr none ↦ absurd (
            let (legal, missed) = requests_miss version tasks ok k v h here walks are none in
            let (j, l, at, miss) = missed in
            sched (all_releases tasks (with_job tasks walks k v) (length tasks)) legal j l miss
            )
      ]),
  (λ pass. times_suffice version tasks ok constrained pass),
)

pub parts_follow_walks : PartsFollowWalks
parts_follow_walks version t ok rs part = (
  (λ a b. within_walk t a b rs part),
  part_walk version t ok rs part,
  part_work version t ok rs part.each,
  (λ a d le all. window_due version t ok a d le rs part all),
  (λ a b from. asked version t ok a b rs part from),
)
