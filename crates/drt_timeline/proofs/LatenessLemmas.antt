-- Each job finishes: from the last release on no tick is idle while a job lacks ticks, so all jobs are done when they could have had all their needs.
use Rattle.std.proofs.Common.{inl, inr, ◌≡◌, ℕ, zero, suc, ◌+◌, ◌*◌, ◌-◌, ◌^◌, ◌<◌, ◌≤◌, Bool, true, List, length, get_or, All, refl, ap, subst, arith}
use Rattle.std.proofs.lemmas.Bool.{cases_lt}
use Rattle.std.proofs.lemmas.Option.{get_or_from_slice_get, slice_get_within}
use Rattle.drt_model.specs.declared.jobs.Job.{Job}
use Rattle.drt_model.specs.declared.jobs.Policy.{Policy}
use Rattle.drt_model.specs.declared.jobs.Release.{Release}
use Rattle.drt_model.specs.declared.tasks.Task.{Task}
use Rattle.drt_model.specs.Legal.{IsLegal}
use Rattle.drt_model.specs.Limits.{IsTask, IsTaskSet, IsVertex}
use Rattle.drt_model.specs.Schedulable.{jobs_of}
use Rattle.drt_model.specs.Trace.{job_at, pick, done, IsFinish, Misses}
use Rattle.drt_model.proofs.JobLemmas.{job_at-jobs_of, known, length-jobs_of, no_release}
use Rattle.drt_model.proofs.LegalLemmas.{allowed_if_legal}
use Rattle.drt_model.proofs.MachineLemmas.{done-le-need, done_mono_le, pick_some}
use Rattle.drt_busy.proofs.Busy.{is_pick_in, served, served-work, served_run, work, work_of-in}
use Rattle.drt_model.specs.Numbers.{most_time}

-- the set of all jobs
abbrev every : ℕ → Bool
every j = true

module _ (policy : Policy) (jobs : List Job) (most : ℕ) (small : (j : ℕ) → j < length jobs → (job_at jobs j).need ≤ most) where
  -- the first m jobs never have more than their needs
  work_small : (n m : ℕ) → m ≤ length jobs → work policy jobs every m n ≤ m * most
  unfolding work
  work_small n zero h = omega arith
  work_small n (suc m) h =
      omega (arith, work_small n m (omega arith), work_of-in policy jobs every n m refl, done-le-need policy jobs m n, small m (omega arith))

  module _ (last : ℕ) (released : (j : ℕ) → j < length jobs → (job_at jobs j).time ≤ last) where
    -- while a job lacks ticks no tick behind the last release is idle
    busy : (j n : ℕ) → j < length jobs → done policy jobs j n < (job_at jobs j).need → (i : ℕ) → last ≤ i → i < n → is_pick_in every (pick policy jobs i) ≡ true
    busy j n here lacks i from before =
        let still : done policy jobs j i < (job_at jobs j).need = omega (arith, lacks, done_mono_le policy jobs j i n (omega arith)) in
        let (k, e) = pick_some policy jobs i j (record { released = omega (arith, released j here); lacks = still }) in
        rw e refl

    -- a job is done when all jobs could have had their needs
    pub all_done : (j n : ℕ) → j < length jobs → last + length jobs * most < n → done policy jobs j n ≡ (job_at jobs j).need
    all_done j n here far = elim (cases_lt (done policy jobs j n) (job_at jobs j).need) [
      | inr had ↦ omega (arith, had, done-le-need policy jobs j n)
      | inl lacks ↦ absurd (
          let whole : last + (n - last) ≡ n = omega arith in
          let run = served_run policy jobs every last (n - last) (λ i from before. busy j n here lacks i from (omega arith)) in
          let ran : served policy jobs every n ≡ served policy jobs every last + (n - last) = subst (λ x. served policy jobs every x ≡ served policy jobs every last + (n - last)) whole run in
          omega (arith, ran, served-work policy jobs every n, work_small n (length jobs) (omega arith))
          )
    ]

-- the job with deadline d misses and finishes after n ticks
module _ (policy : Policy) (jobs : List Job) (j n d : ℕ) (misses : Misses policy jobs j) (finish : IsFinish policy jobs j n) (deadline : d ≡ (job_at jobs j).deadline) where
  pub later_finish : d < n
  later_finish = elim (cases_lt d n) [
    | inl later ↦ later
    | inr by ↦ absurd (omega (arith, misses, deadline, finish.reached, done_mono_le policy jobs j n (job_at jobs j).deadline (omega arith)))
  ]

  pub late_finish : IsFinish policy jobs j ((job_at jobs j).deadline + (n - d))
  late_finish =
      let sum : n ≡ (job_at jobs j).deadline + (n - d) = omega (arith, later_finish, deadline) in
      subst (IsFinish policy jobs j) sum finish

-- legal releases need at most what a vertex may
pub need_small : (version : ℕ) (tasks : List Task) → IsTaskSet version tasks → (rs : List Release) → IsLegal tasks rs → All (λ r. r.need ≤ most_time) rs
need_small version tasks set rs legal i d h =
    let k = known tasks (get_or rs i d) (allowed_if_legal tasks rs legal i d h) in
    let task : IsTask version k.task = subst (IsTask version) (get_or_from_slice_get tasks (get_or rs i d).task k.task k.task k.is_task)
    (set.each (get_or rs i d).task k.task (slice_get_within tasks (get_or rs i d).task k.task k.is_task)) in
    let vertex : IsVertex k.vertex = subst IsVertex (get_or_from_slice_get k.task.vertices (get_or rs i d).vertex k.vertex k.vertex k.is_vertex)
    (task.vertices (get_or rs i d).vertex k.vertex (slice_get_within k.task.vertices (get_or rs i d).vertex k.vertex k.is_vertex)) in
    omega (arith, k.need, vertex.wcet)

-- the jobs of releases are released and need as these say
module _ (tasks : List Task) (rs : List Release) where
  job_time : (last : ℕ) → All (λ r. r.time ≤ last) rs → (j : ℕ) → j < length (jobs_of tasks rs) → (job_at (jobs_of tasks rs) j).time ≤ last
  job_time last by j h =
      let here : j < length rs = omega (arith, length-jobs_of tasks rs) in
      omega (arith, ap (λ job. job.time) (job_at-jobs_of tasks rs j here), by j no_release here)

  job_need : (most : ℕ) → All (λ r. r.need ≤ most) rs → (j : ℕ) → j < length (jobs_of tasks rs) → (job_at (jobs_of tasks rs) j).need ≤ most
  job_need most small j h =
      let here : j < length rs = omega (arith, length-jobs_of tasks rs) in
      omega (arith, ap (λ job. job.need) (job_at-jobs_of tasks rs j here), small j no_release here)

  -- a job of legal releases at times of at most 10^18 ticks is done after 2^62
  pub done_in_the_end : (policy : Policy) → All (λ r. r.time ≤ 10 ^ 18) rs → All (λ r. r.need ≤ most_time) rs → length rs < 2 ^ 32
      → (j : ℕ) → j < length (jobs_of tasks rs) → done policy (jobs_of tasks rs) j 4611686018427387904 ≡ (job_at (jobs_of tasks rs) j).need
  done_in_the_end policy times needs few j h =
      all_done policy (jobs_of tasks rs) most_time (job_need most_time needs) (10 ^ 18) (job_time (10 ^ 18) times) j 4611686018427387904 h
      (omega (arith, few, length-jobs_of tasks rs))
