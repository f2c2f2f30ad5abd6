-- The demand of a set of jobs, as the sum of the demands of the tasks' parts.
use Rattle.std.proofs.Common.{map, inl, inr, ◌≡◌, ℕ, zero, suc, ◌+◌, ◌<◌, ◌≤◌, Bool, ◌&&◌, cond, eqb, leb, ltb, List, [], ◌∷◌, length, take, filter, sum_by, refl, sym, ap, ◌∙◌, arith, All, add-one}
use Rattle.std.proofs.lemmas.Bool.{cases_eq, eq-eqb, ne_eqb}
use Rattle.std.proofs.lemmas.List.{take_all}
use Rattle.std.proofs.lemmas.List.Sums.{sum_by_more, sum_by-cons}
use Rattle.std.proofs.lemmas.List.Elements.{All-head, All-tail}
use Rattle.drt_model.specs.declared.jobs.Job.{Job}
use Rattle.drt_model.specs.declared.tasks.Task.{Task}
use Rattle.drt_model.specs.declared.jobs.Release.{Release}
use Rattle.drt_model.specs.declared.jobs.Policy.{Policy}
use Rattle.drt_model.specs.Legal.{part_of}
use Rattle.drt_model.specs.Trace.{job_at}
use Rattle.drt_model.specs.Schedulable.{job_of, jobs_of}
use Rattle.drt_busy.proofs.Busy.{demand, due_of}

-- what a job is due between a and b, if it passes the test
abbrev pub due : (Job → Bool) → ℕ → ℕ → Job → ℕ
due test a b job = cond (test job && (leb a job.time && ltb job.time b)) job.need 0

module _ (policy : Policy) (jobs : List Job) (test : Job → Bool) (a b : ℕ) where
  demand-take : (m : ℕ) → m ≤ length jobs → demand policy jobs (λ j. test (job_at jobs j)) m a b ≡ sum_by (due test a b) (take m jobs)
  unfolding demand due_of
  demand-take zero h = refl
  demand-take (suc m) h =
      let more = sum_by_more (due test a b) jobs m (record { task = 0; priority = 0; time = 0; deadline = 0; need = 0 }) (omega arith) in
      omega (arith, demand-take m (omega arith), rw add-one at more)

  -- the demand by places is a sum over the list
  pub demand-sum : demand policy jobs (λ j. test (job_at jobs j)) (length jobs) a b ≡ sum_by (due test a b) jobs
  demand-sum = demand-take (length jobs) (omega arith) ∙ ap (sum_by (due test a b)) (take_all (length jobs) jobs (omega arith))

abbrev pub of_task : ℕ → List Job → List Job
of_task k jobs = filter (λ job. eqb job.task k) jobs

module _ (f : Job → ℕ) where
  -- the sums of the first n tasks' jobs
  unfoldable pub task_sums : ℕ → List Job → ℕ
  task_sums zero jobs = 0
  task_sums (suc n) jobs = task_sums n jobs + sum_by f (of_task n jobs)

  of_task-same : (k : ℕ) (job : Job) (jobs : List Job) → job.task ≡ k → sum_by f (of_task k (job ∷ jobs)) ≡ f job + sum_by f (of_task k jobs)
  of_task-same k job jobs e = rw (eq-eqb job.task k e) (sum_by-cons f job (of_task k jobs))

  of_task-other : (k : ℕ) (job : Job) (jobs : List Job) → (job.task ≡ k → ⊥) → sum_by f (of_task k (job ∷ jobs)) ≡ sum_by f (of_task k jobs)
  of_task-other k job jobs ne = rw (ne_eqb job.task k ne) refl

  pub task_sums-nil : (n : ℕ) → task_sums n [] ≡ 0
  unfolding task_sums
  task_sums-nil zero = refl
  task_sums-nil (suc n) = omega (arith, task_sums-nil n)

  pub task_sums-past : (n : ℕ) (job : Job) (jobs : List Job) → n ≤ job.task → task_sums n (job ∷ jobs) ≡ task_sums n jobs
  unfolding task_sums
  task_sums-past zero job jobs h = refl
  task_sums-past (suc n) job jobs h = omega (arith, task_sums-past n job jobs (omega arith), of_task-other n job jobs (λ e. omega arith))

  pub task_sums-cons : (n : ℕ) (job : Job) (jobs : List Job) → job.task < n → task_sums n (job ∷ jobs) ≡ f job + task_sums n jobs
  unfolding task_sums
  task_sums-cons zero job jobs h = absurd (omega arith)
  task_sums-cons (suc n) job jobs h = elim (cases_eq job.task n) [
    | inl e ↦ omega (arith, task_sums-past n job jobs (omega arith), of_task-same n job jobs e)
    | inr ne ↦ omega (arith, task_sums-cons n job jobs (omega arith), of_task-other n job jobs ne)
  ]

  -- a sum over jobs is the sum of the sums over the tasks
  pub sum-by_task : (n : ℕ) (jobs : List Job) → All (λ job. job.task < n) jobs → sum_by f jobs ≡ task_sums n jobs
  sum-by_task n [] h = sym (task_sums-nil n)
  sum-by_task n (job ∷ jobs) h = omega
      (arith, sum_by-cons f job jobs, sum-by_task n jobs (All-tail (λ job. job.task < n) job jobs h), task_sums-cons n job jobs (All-head (λ job. job.task < n) job jobs h))

-- the jobs of task k are those of its part
pub of_task-part : (tasks : List Task) (k : ℕ) (rs : List Release) → of_task k (jobs_of tasks rs) ≡ jobs_of tasks (part_of k rs)
of_task-part tasks k [] = refl
of_task-part tasks k (r ∷ rs) = elim (cases_eq r.task k) [
  | inl e ↦ rw (eq-eqb r.task k e) (ap (λ js. job_of tasks r ∷ js) (of_task-part tasks k rs))
  | inr ne ↦ rw (ne_eqb r.task k ne) (of_task-part tasks k rs)
]

pub sum-map : (f : Job → ℕ) (g : Release → Job) (rs : List Release) → sum_by f (map g rs) ≡ sum_by (λ r. f (g r)) rs
sum-map f g [] = refl
sum-map f g (r ∷ rs) = sum_by-cons f (g r) (map g rs) ∙ ap (λ x. f (g r) + x) (sum-map f g rs) ∙ sym (sum_by-cons (λ x. f (g x)) r rs)
