-- Which releases the walks of the tasks of higher priority and one of vertex v of task k give.
use Rattle.std.proofs.Common.{inl, inr, ◌≡◌, ℕ, zero, suc, ◌+◌, ◌<◌, ◌≤◌, Bool, false, cond, eqb, ltb, List, [], ◌∷◌, length, get_or, take, count_by, All, Contains, refl, sym, ap, ◌∙◌, subst, arith}
use Rattle.std.proofs.lemmas.Bool.{cases_eq, cases_lt, eq-eqb, le-ltb, ne_eqb}
use Rattle.std.proofs.lemmas.List.{get_or_default}
use Rattle.std.proofs.lemmas.List.Elements.{All-nil, All-cons, All-append, All-contains_itself, All-head, All-tail, All-weaker}
use Rattle.std.proofs.lemmas.List.Sums.{count_by_more_yes, sum_by-append, sum_by-cons, sum_by-take-le}
use Rattle.drt_model.specs.declared.jobs.Job.{Job}
use Rattle.drt_model.specs.declared.jobs.Release.{Release}
use Rattle.drt_model.specs.declared.tasks.Task.{Task}
use Rattle.drt_model.specs.Digraph.{Digraph}
use Rattle.drt_model.specs.Misses.{index_of}
use Rattle.drt_model.specs.Schedulable.{job_of, jobs_of}
use Rattle.drt_model.specs.Trace.{job_at}
use Rattle.drt_model.specs.Walk.{gap}
use Rattle.drt_model.proofs.JobLemmas.{length-jobs_of}
use Rattle.drt_busy.specs.Choice.{graph_at, task_at}
use Rattle.drt_busy.specs.WalkReleases.{all_releases, release_at, releases_from, releases_of, with_job}
use Rattle.drt_busy.proofs.ByTask.{sum-map}

from_task : (g : Digraph) (k x u : ℕ) (vs : List ℕ) → All (λ r. r.task ≡ k) (releases_from g k x u vs)
unfolding releases_from
from_task g k x u [] = All-cons (λ r. r.task ≡ k) (release_at g k x u) [] refl (All-nil (λ r. r.task ≡ k))
from_task g k x u (v ∷ vs) = All-cons (λ r. r.task ≡ k) (release_at g k x u) (releases_from g k (x + gap g u v) v vs) refl (from_task g k (x + gap g u v) v vs)

-- the releases of a walk of a task are of that task
of_task : (g : Digraph) (k : ℕ) (walk : List ℕ) → All (λ r. r.task ≡ k) (releases_of g k walk)
of_task g k [] = All-nil (λ r. r.task ≡ k)
of_task g k (u ∷ vs) = from_task g k 0 u vs

module _ (tasks : List Task) (walks : ℕ → List ℕ) where
  -- the release is one of those of its task's walk
  abbrev pub IsOfWalk : Release → Type 0
  IsOfWalk r = Contains (releases_of (graph_at tasks r.task) r.task (walks r.task)) r

  of_walk : (k : ℕ) → All IsOfWalk (releases_of (graph_at tasks k) k (walks k))
  of_walk k i d h =
      let rs = releases_of (graph_at tasks k) k (walks k) in
      subst (λ n. Contains (releases_of (graph_at tasks n) n (walks n)) (get_or rs i d)) (sym (of_task (graph_at tasks k) k (walks k) i d h)) (All-contains_itself rs i d h)

  pub of_walks : (n : ℕ) → All IsOfWalk (all_releases tasks walks n)
  unfolding all_releases
  of_walks zero = All-nil IsOfWalk
  of_walks (suc k) = All-append IsOfWalk (all_releases tasks walks k) (releases_of (graph_at tasks k) k (walks k)) (of_walks k) (of_walk k)

-- what stands past the end of the jobs
abbrev no_job : Job
no_job = record { task = 0; priority = 0; time = 0; deadline = 0; need = 0 }

-- none of some releases is of task k
none_of : (k : ℕ) (rs : List Release) → All (λ r. r.task ≡ k → ⊥) rs → count_by (λ r. eqb r.task k) rs ≡ 0
none_of k [] none = refl
none_of k (r ∷ rs) none =
    let no : eqb r.task k ≡ false = ne_eqb r.task k (All-head (λ x. x.task ≡ k → ⊥) r rs none) in
    let zero_here : ◌≡◌ {A = ℕ} (cond (eqb r.task k) 1 0) 0 = rw no refl in
    omega (arith, sum_by-cons (λ x. cond (eqb x.task k) 1 0) r rs, zero_here, none_of k rs (All-tail (λ x. x.task ≡ k → ⊥) r rs none))

module _ (tasks : List Task) (walks : ℕ → List ℕ) (k v : ℕ) where
  -- the releases of them all
  abbrev pub job_releases : List Release
  job_releases = all_releases tasks (with_job tasks walks k v) (length tasks)

  not_higher : (i : ℕ) → (task_at tasks k).priority ≤ (task_at tasks i).priority → ltb (task_at tasks i).priority (task_at tasks k).priority ≡ false
  not_higher i le = le-ltb (task_at tasks i).priority (task_at tasks k).priority le

  job_here : with_job tasks walks k v k ≡ v ∷ []
  unfolding with_job
  job_here = rw (not_higher k (omega arith), eq-eqb k k refl) refl

  job_nowhere : (i : ℕ) → (task_at tasks k).priority ≤ (task_at tasks i).priority → (i ≡ k → ⊥) → with_job tasks walks k v i ≡ []
  unfolding with_job
  job_nowhere i le ne = rw (not_higher i le, ne_eqb i k ne) refl

  only_release : releases_of (graph_at tasks k) k (with_job tasks walks k v k) ≡ release_at (graph_at tasks k) k 0 v ∷ []
  unfolding releases_from
  only_release = rw job_here refl

  -- a release of task k is the one of the vertex
  pub is_job : (r : Release) → IsOfWalk tasks (with_job tasks walks k v) r → r.task ≡ k → r ≡ release_at (graph_at tasks k) k 0 v
  is_job r is_of e =
      let here = subst (λ n. Contains (releases_of (graph_at tasks n) n (with_job tasks walks k v n)) r) e is_of in
      one_only (subst (λ rs. Contains rs r) only_release here)
    where
      one_only : Contains (release_at (graph_at tasks k) k 0 v ∷ []) r → r ≡ release_at (graph_at tasks k) k 0 v
      one_only (zero, h, is) = sym is
      one_only (suc i, h, is) = absurd (omega arith)

  -- any other release is of a task of higher priority
  pub is_higher : (r : Release) → IsOfWalk tasks (with_job tasks walks k v) r → (r.task ≡ k → ⊥) → (task_at tasks r.task).priority < (task_at tasks k).priority
  is_higher r is_of ne = elim (cases_lt (task_at tasks r.task).priority (task_at tasks k).priority) [
    | inl lt ↦ lt
    | inr le ↦
        (let none : Contains [] r = subst (λ w. Contains (releases_of (graph_at tasks r.task) r.task w) r) (job_nowhere r.task le ne) is_of in
        absurd (omega (arith, none.1)))
  ]

  -- the releases of the walk of task i
  abbrev of_one : ℕ → List Release
  of_one i = releases_of (graph_at tasks i) i (with_job tasks walks k v i)

  -- how many of some releases are of task k
  abbrev count : List Release → ℕ
  count rs = count_by (λ r. eqb r.task k) rs

  count_other : (i : ℕ) → (i ≡ k → ⊥) → count (of_one i) ≡ 0
  count_other i ne =
      let all = All-weaker (λ r. r.task ≡ i) (λ r. r.task ≡ k → ⊥) (λ r e l. ne (sym e ∙ l)) (of_one i) (of_task (graph_at tasks i) i (with_job tasks walks k v i)) in
      none_of k (of_one i) all

  count_more : (i : ℕ) → count (all_releases tasks (with_job tasks walks k v) (suc i)) ≡ count (all_releases tasks (with_job tasks walks k v) i) + count (of_one i)
  unfolding all_releases
  count_more i = sum_by-append (λ r. cond (eqb r.task k) 1 0) (all_releases tasks (with_job tasks walks k v) i) (of_one i)

  count_none : count (all_releases tasks (with_job tasks walks k v) 0) ≡ 0
  unfolding all_releases
  count_none = refl

  count_before : (n : ℕ) → n ≤ k → count (all_releases tasks (with_job tasks walks k v) n) ≡ 0
  count_before zero h = count_none
  count_before (suc i) h = omega (arith, count_more i, count_before i (omega arith), count_other i (λ e. omega arith))

  count_here : count (of_one k) ≡ 1
  count_here = rw only_release (rw (eq-eqb k k refl) refl)

  -- at most one release is of task k
  count_job : (n : ℕ) → count (all_releases tasks (with_job tasks walks k v) n) ≤ 1
  count_job zero = omega (arith, count_none)
  count_job (suc i) = elim (cases_eq i k) [
    | inl e ↦ omega (arith, count_more i, count_before i (omega arith), ap (λ n. count (of_one n)) e, count_here)
    | inr ne ↦ omega (arith, count_more i, count_job i, count_other i ne)
  ]

  -- no job of task k stands before a job of task k
  pub first_job : (j : ℕ) → j < length job_releases → (job_at (jobs_of tasks job_releases) j).task ≡ k → index_of (jobs_of tasks job_releases) j ≡ 0
  first_job j h e =
      let jobs = jobs_of tasks job_releases in
      let of_k : Job → Bool = λ job. eqb job.task k in
      let one : Job → ℕ = λ job. cond (eqb job.task k) 1 0 in
      let h' : j < length jobs = omega (arith, length-jobs_of tasks job_releases) in
      let job = job_at jobs j in
      let here : (get_or jobs j job).task ≡ k = ap (λ x. x.task) (get_or_default jobs j job no_job h') ∙ e in
      let more = count_by_more_yes of_k jobs j job h' (eq-eqb (get_or jobs j job).task k here) in
      let most = sum_by-take-le one jobs (j + 1) in
      let none : count_by of_k (take j jobs) ≡ 0 = omega (arith, more, most, sum-map one (job_of tasks) job_releases, count_job (length tasks)) in
      subst (λ n. count_by (λ x. eqb x.task n) (take j jobs) ≡ 0) (sym e) none
