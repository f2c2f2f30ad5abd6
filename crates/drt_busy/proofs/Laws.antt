-- The laws of the trace, from the lemmas on busy times.
use Rattle.std.proofs.Common.{inl, inr, ◌⊎◌, ◌≡◌, ℕ, zero, suc, ◌+◌, ◌<◌, ◌≤◌, Bool, true, false, ◌&&◌, cond, leb, ltb, List, [], ◌∷◌, length, get_or, sum_by, Some, slice_get, sym, ap, ◌∙◌, arith}
use Rattle.std.proofs.lemmas.Bool.{cases_eq, cases_lt, cases_Bool, lt-ltb, leb-true, le-leb}
use Rattle.std.proofs.lemmas.List.Sums.{sum_by-cons, sum_by-le-sum_by}
use Rattle.std.proofs.lemmas.List.Elements.{All-head, All-tail}
use Rattle.drt_model.specs.declared.jobs.Job.{Job}
use Rattle.drt_model.specs.declared.jobs.Policy.{Policy}
use Rattle.drt_model.specs.declared.jobs.Policy.TheVariants.{Edf, Fixed}
use Rattle.std.specs.Option.{unwrap_or, option_map}
use Rattle.drt_model.specs.declared.jobs.Release.{Release}
use Rattle.drt_model.specs.declared.tasks.Task.{Task}
use Rattle.drt_model.specs.Constrained.{AreConstrained}
use Rattle.drt_model.specs.Legal.{IsLegal}
use Rattle.drt_model.specs.Limits.{IsTaskSet}
use Rattle.drt_model.specs.Schedulable.{jobs_of}
use Rattle.drt_model.specs.Trace.{job_at, pick, done, Misses}
use Rattle.drt_model.proofs.MachineLemmas.{IsPending, pick_pending, pick_first, pick_some, in_range, done_mono_le, done-le-need, done_cases, done-zero}
use Rattle.drt_model.proofs.JobLemmas.{job_at-jobs_of, no_release}
use Rattle.drt_busy.specs.Needs.{needs, is_due, is_above, AreTimed}
use Rattle.drt_busy.specs.Laws.{PicksArePending, DoneGrows, TicksAreUsed, LeastMisses, MissesOverload, OverloadMisses, MissesPassNoTime, NoTimeMisses}
use Rattle.drt_busy.proofs.Busy.{demand, edf_overload}
use Rattle.drt_busy.proofs.ByTask.{due, demand-sum}
use Rattle.drt_busy.proofs.Fixed.{AreEarlierDone, is_higher, fixed_overload}
use Rattle.drt_busy.proofs.FirstMiss.{earlier_done, task_later}
use Rattle.drt_busy.proofs.Overload.{overloaded_misses, finish_fits}

pub picks_are_pending : PicksArePending
picks_are_pending policy jobs n j e =
    let p = pick_pending policy jobs n j e in
    (in_range policy jobs n j p, p.released, p.lacks)

pub done_grows : DoneGrows
done_grows policy jobs j m n h = (done_mono_le policy jobs j m n h, done-le-need policy jobs j n)

pub ticks_are_used : TicksAreUsed
ticks_are_used policy jobs n j t l =
    let p : IsPending policy jobs n j = record { released = t; lacks = l } in
    let (k, e) = pick_some policy jobs n j p in
    (k, e, pick_first policy jobs n k j e p)

-- the least deadline among the misses of the first m jobs
module _ (policy : Policy) (jobs : List Job) where
  abbrev LeastBelow : ℕ → ℕ → Type 0
  LeastBelow m k = (k < m) × Misses policy jobs k × ((i : ℕ) → i < m → Misses policy jobs i → (job_at jobs k).deadline ≤ (job_at jobs i).deadline)

  least_below : (m : ℕ) → ((i : ℕ) → i < m → Misses policy jobs i → ⊥) ⊎ ((k : ℕ) × LeastBelow m k)
  least_below zero = inl (λ i h. absurd (omega arith))
  least_below (suc m) = elim (cases_lt (done policy jobs m (job_at jobs m).deadline) (job_at jobs m).need) [
    | inr met ↦ elim (least_below m) [
      | inl none ↦ inl (λ i h miss. elim (cases_eq i m)
          [ inl e ↦ omega (arith, miss, met, ap (λ x. done policy jobs x (job_at jobs x).deadline) e, ap (λ x. (job_at jobs x).need) e) | inr ne ↦ none i (omega arith) miss ])
      | inr (k, (h, miss, least)) ↦ inr (
        k,
        (
          omega arith,
          miss,
          (λ i l missed. elim (cases_eq i m) [
            | inl e ↦ absurd (omega (arith, missed, met, ap (λ x. done policy jobs x (job_at jobs x).deadline) e, ap (λ x. (job_at jobs x).need) e))
            | inr ne ↦ least i (omega arith) missed
          ]),
        ),
      )
    ]
    | inl here ↦ elim (least_below m) [
      | inl none ↦ inr (
        m,
        (
          omega arith,
          here,
          (λ i l missed. elim (cases_eq i m) [
            | inl e ↦ omega (arith, ap (λ x. (job_at jobs x).deadline) e)
            | inr ne ↦ absurd (none i (omega arith) missed)
          ]),
        ),
      )
      | inr (k, (h, miss, least)) ↦ elim (cases_lt (job_at jobs m).deadline (job_at jobs k).deadline) [
        | inl sooner ↦ inr (
          m,
          (
            omega arith,
            here,
            (λ i l missed. elim (cases_eq i m) [
              | inl e ↦ omega (arith, ap (λ x. (job_at jobs x).deadline) e)
              | inr ne ↦ (let g = least i (omega arith) missed in omega arith)
            ]),
          ),
        )
        | inr later ↦ inr (
          k,
          (
            omega arith,
            miss,
            (λ i l missed. elim (cases_eq i m) [
              | inl e ↦ omega (arith, ap (λ x. (job_at jobs x).deadline) e)
              | inr ne ↦ least i (omega arith) missed
            ]),
          ),
        )
      ]
    ]
  ]

pub least_misses : LeastMisses
least_misses policy jobs j h miss = elim (least_below policy jobs (length jobs)) [
  | inl none ↦ absurd (none j h miss)
  | inr (k, least) ↦ (k, least.0, least.1, least.2)
]

cond_due : (x y z : Bool) (n : ℕ) → cond (x && (y && z)) n 0 ≤ cond (y && x) n 0
cond_due true true true n = omega arith
cond_due true true false n = omega arith
cond_due true false z n = omega arith
cond_due false y z n = omega arith

pub misses_overload : MissesOverload
misses_overload jobs j h miss =
    let d = (job_at jobs j).deadline in
    let (s, lt, over) = edf_overload jobs j h miss in
    let test : Job → Bool = λ job. leb job.deadline d in
    let sum = demand-sum Edf jobs test s d in
    let le = sum_by-le-sum_by (due test s d) (λ job. cond (is_due s d job) job.need 0) jobs (λ job. cond_due (leb job.deadline d) (leb s job.time) (ltb job.time d) job.need) in
    (s, lt, omega (arith, over, sum, le))

one_timed : (t : ℕ) (job : Job) → job.time < job.deadline → cond (is_due 0 t job) job.need 0 ≤ due (λ x. leb x.deadline t) 0 t job
one_timed t job h = elim (cases_Bool (leb job.deadline t)) [
  | inr f ↦ (let z : leb 0 job.time ≡ true = le-leb 0 job.time (omega arith) in rw (f, z) (omega arith))
  | inl e ↦ (let due' = leb-true job.deadline t e in let z : leb 0 job.time ≡ true = le-leb 0 job.time (omega arith) in rw (e, lt-ltb job.time t (omega arith), z) (omega arith))
]

-- jobs that are due by t are released before
due_timed : (t : ℕ) (jobs : List Job) → AreTimed jobs → sum_by (λ job. cond (is_due 0 t job) job.need 0) jobs ≤ sum_by (due (λ job. leb job.deadline t) 0 t) jobs
due_timed t [] timed = omega arith
due_timed t (job ∷ jobs) timed =
    let rest = due_timed t jobs (All-tail (λ x. x.time < x.deadline) job jobs timed) in
    let here = All-head (λ x. x.time < x.deadline) job jobs timed in
    let one : cond (is_due 0 t job) job.need 0 ≤ due (λ x. leb x.deadline t) 0 t job = one_timed t job here in
    omega (arith, sum_by-cons (λ x. cond (is_due 0 t x) x.need 0) job jobs, sum_by-cons (due (λ x. leb x.deadline t) 0 t) job jobs, rest, one)

pub overload_misses : OverloadMisses
overload_misses policy jobs timed t h =
    let test : Job → Bool = λ job. leb job.deadline t in
    overloaded_misses policy jobs t (omega (arith, h, due_timed t jobs timed, demand-sum policy jobs test 0 t))

pub above_work : (jobs : List Job) (j s t : ℕ) → t < (job_at jobs j).need + demand Fixed jobs (is_higher jobs j) (length jobs) s (s + t)
    → t < (job_at jobs j).need + needs (is_above (job_at jobs j).priority s (s + t)) jobs
unfolding is_higher
above_work jobs j s t h =
    let test : Job → Bool = λ job. ltb job.priority (job_at jobs j).priority in
    omega (arith, h, demand-sum Fixed jobs test s (s + t))

task_done : (version : ℕ) (tasks : List Task) → IsTaskSet version tasks → AreConstrained tasks → (rs : List Release) → IsLegal tasks rs → (j : ℕ) → j < length rs
    → (i : ℕ) → i < j → (job_at (jobs_of tasks rs) i).task ≡ (job_at (jobs_of tasks rs) j).task → AreEarlierDone (jobs_of tasks rs) j
    → (job_at (jobs_of tasks rs) i).need ≤ done Fixed (jobs_of tasks rs) i (job_at (jobs_of tasks rs) j).time
task_done version tasks ok constrained rs legal j h i lt same earlier =
    let ji = job_at-jobs_of tasks rs i (omega arith) in
    let jj = job_at-jobs_of tasks rs j h in
    let r = get_or rs i no_release in
    let r' = get_or rs j no_release in
    let same' : r.task ≡ r'.task = sym (ap (λ x. x.task) ji) ∙ same ∙ ap (λ x. x.task) jj in
    let priority : (job_at (jobs_of tasks rs) i).priority ≡ (job_at (jobs_of tasks rs) j).priority =
    ap (λ x. x.priority) ji ∙ ap (λ k. unwrap_or (option_map (λ t. t.priority) (slice_get tasks k)) 0) same' ∙ sym (ap (λ x. x.priority) jj) in
    let time : (job_at (jobs_of tasks rs) i).time ≤ (job_at (jobs_of tasks rs) j).time = rw (ji, jj) (task_later version tasks ok constrained rs legal i j lt h same') in
    earlier i (λ e. omega arith) priority time

pub misses_pass_no_time : MissesPassNoTime
misses_pass_no_time version tasks ok constrained rs legal j h miss none =
    let jobs = jobs_of tasks rs in
    let r = (job_at jobs j).time in
    let none' : (i : ℕ) → i < j → (get_or rs i no_release).task ≡ (get_or rs j no_release).task → Misses Fixed jobs i → ⊥ =
    λ i lt same m. none i lt (ap (λ x. x.task) (job_at-jobs_of tasks rs i (omega arith)) ∙ same ∙ sym (ap (λ x. x.task) (job_at-jobs_of tasks rs j h))) m in
    let earlier = earlier_done version tasks ok constrained rs legal j h none' in
    let (s, low, f) = fixed_overload jobs j earlier miss in (
      (λ i lt same. task_done version tasks ok constrained rs legal j h i lt same earlier),
      (s, low, λ t one due. above_work jobs j s t (f t one due)),
    )

-- the last tick of a job that has had its need
pub last_tick : (policy : Policy) (jobs : List Job) (j n : ℕ) → 1 ≤ (job_at jobs j).need → (job_at jobs j).need ≤ done policy jobs j n
    → (m : ℕ) × (m < n) × (pick policy jobs m ≡ Some j) × (done policy jobs j (suc m) ≡ (job_at jobs j).need)
last_tick policy jobs j zero one h = absurd (omega (arith, done-zero policy jobs j))
last_tick policy jobs j (suc n) one h = elim (cases_lt (done policy jobs j n) (job_at jobs j).need) [
  | inr had ↦ (let (m, lt, e, last) = last_tick policy jobs j n one had in (m, omega arith, e, last))
  | inl lacks ↦ elim (done_cases policy jobs n j) [
    | inl (e, d) ↦ (n, omega arith, e, omega (arith, d))
    | inr (ne, d) ↦ absurd (omega (arith, d))
  ]
]

pub higher_work : (jobs : List Job) (j t : ℕ) → demand Fixed jobs (is_higher jobs j) (length jobs) 0 t ≡ needs (is_above (job_at jobs j).priority 0 t) jobs
unfolding is_higher
higher_work jobs j t =
    let test : Job → Bool = λ job. ltb job.priority (job_at jobs j).priority in
    demand-sum Fixed jobs test 0 t

pub no_time_misses : NoTimeMisses
no_time_misses jobs j h start one f = elim (cases_lt (done Fixed jobs j (job_at jobs j).deadline) (job_at jobs j).need) [
  | inl miss ↦ miss
  | inr met ↦ absurd (
      let (m, lt, e, last) = last_tick Fixed jobs j (job_at jobs j).deadline one met in
      let fits = finish_fits jobs j m e last in
      let over = f (suc m) (omega arith) (omega arith) in
      omega (arith, fits, over, higher_work jobs j (suc m))
      )
]
