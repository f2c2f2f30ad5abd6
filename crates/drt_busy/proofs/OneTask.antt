-- A set of one task with constrained deadlines meets them exactly where each vertex fits.
use Rattle.std.proofs.Common.{inl, inr, ◌≡◌, ℕ, zero, suc, ◌+◌, ◌-◌, ◌<◌, ◌≤◌, List, [], ◌∷◌, length, get_or, Some, All, slice_get, sym, ap, ◌∙◌, subst, arith}
use Rattle.std.proofs.lemmas.Bool.{cases_lt}
use Rattle.std.proofs.lemmas.List.Elements.{All-cons, All-nil}
use Rattle.std.proofs.lemmas.Option.{get_or_from_slice_get, slice_get_within, slice_get-get_or}
use Rattle.drt_model.specs.declared.tasks.Task.{Task}
use Rattle.drt_model.specs.declared.tasks.Vertex.{Vertex}
use Rattle.drt_model.specs.declared.jobs.Release.{Release}
use Rattle.drt_model.specs.declared.jobs.Policy.{Policy}
use Rattle.drt_model.specs.Limits.{IsTaskSet, IsTask, IsVertex}
use Rattle.drt_model.specs.Legal.{IsLegal, IsAllowed, IsAllowedStep, Follows}
use Rattle.drt_model.specs.Trace.{job_at, Misses}
use Rattle.drt_model.specs.Schedulable.{Schedulable, jobs_of, deadline_of}
use Rattle.drt_model.proofs.Neighbours.{AllNeighbours-one}
use Rattle.drt_model.proofs.LegalLemmas.{allowed_if_legal, step_if_legal, legal_if_allowed}
use Rattle.drt_model.proofs.MachineLemmas.{done-le}
use Rattle.drt_model.proofs.JobLemmas.{no_release, Known, known, deadline_of_known, length-jobs_of, job_at-jobs_of}
use Rattle.drt_model.specs.Constrained.{IsConstrainedEdge, AreConstrained}
use Rattle.drt_model.specs.Misses.{miss_of}
use Rattle.drt_model.specs.declared.jobs.Miss.{Miss}
use Rattle.drt_busy.specs.OneTask.{AllFit, whole_release, OneTaskDecides, TooLongMisses}
use Rattle.drt_busy.proofs.Apart.{AreApart, done-apart}

module _ (tasks : List Task) (one : length tasks ≡ 1) (constrained : AreConstrained tasks) (fit : All AllFit tasks) where
  -- a job can be done by its deadline
  job_fits : (r : Release) (k : Known tasks r) → r.need ≤ k.vertex.deadline
  job_fits r k =
      let t : get_or tasks r.task k.task ≡ k.task = get_or_from_slice_get tasks r.task k.task k.task k.is_task in
      let v : get_or k.task.vertices r.vertex k.vertex ≡ k.vertex = get_or_from_slice_get k.task.vertices r.vertex k.vertex k.vertex k.is_vertex in
      let f : AllFit k.task = subst AllFit t (fit r.task k.task (slice_get_within tasks r.task k.task k.is_task)) in
      let g : k.vertex.wcet ≤ k.vertex.deadline = subst (λ x. x.wcet ≤ x.deadline) v (f r.vertex k.vertex (slice_get_within k.task.vertices r.vertex k.vertex k.is_vertex)) in
      omega (arith, k.need)

  -- and before the next release
  next_fits : (r s : Release) (k : Known tasks r) → Follows k.task r s → r.time + r.need ≤ s.time
  next_fits r s k (i, e, h, at, (from, to, sep)) =
      let t : get_or tasks r.task k.task ≡ k.task = get_or_from_slice_get tasks r.task k.task k.task k.is_task in
      let c : All (IsConstrainedEdge k.task) k.task.edges = subst (λ x. All (IsConstrainedEdge x) x.edges) t (constrained r.task k.task (slice_get_within tasks r.task k.task k.is_task)) in
      let ce : IsConstrainedEdge k.task e = subst (IsConstrainedEdge k.task) at (c i e h) in
      let d : k.vertex.deadline ≤ e.sep = rw (from, k.is_vertex) at ce in
      omega (arith, job_fits r k)

  module _ (rs : List Release) (legal : IsLegal tasks rs) where
    release_known : (j : ℕ) → j < length rs → Known tasks (get_or rs j no_release)
    release_known j h = known tasks (get_or rs j no_release) (allowed_if_legal tasks rs legal j no_release h)

    next_apart : (i : ℕ) → i + 1 < length rs → (get_or rs i no_release).time + (get_or rs i no_release).need ≤ (get_or rs (i + 1) no_release).time
    next_apart i h =
        let r = get_or rs i no_release in
        let s = get_or rs (i + 1) no_release in
        let k = release_known i (omega arith) in
        elim (step_if_legal tasks rs legal i no_release h) [
          | inl later ↦ absurd (omega (arith, legal.of_tasks (i + 1) no_release h))
          | inr same ↦ next_fits r s k (rw k.is_task at same.1)
        ]

    all_apart : (i m : ℕ) → i + suc m < length rs → (get_or rs i no_release).time + (get_or rs i no_release).need ≤ (get_or rs (i + suc m) no_release).time
    all_apart i zero h = (let e : i + suc zero ≡ i + 1 = omega arith in rw e (next_apart i (omega arith)))
    all_apart i (suc m) h =
        let e : i + suc (suc m) ≡ (i + suc m) + 1 = omega arith in
        rw e (omega (arith, all_apart i m (omega arith), next_apart (i + suc m) (omega arith)))

    apart : AreApart (jobs_of tasks rs)
    apart = record {
      apart = λ i j h l.
          (let below : j < length rs = omega (arith, length-jobs_of tasks rs) in
          let e : i + suc (j - (i + 1)) ≡ j = omega arith in
          let f = rw e at (all_apart i (j - (i + 1)) (omega arith)) in
          rw (job_at-jobs_of tasks rs i (omega arith), job_at-jobs_of tasks rs j below) f);
    }

    no_miss : (policy : Policy) (j : ℕ) → j < length rs → Misses policy (jobs_of tasks rs) j → ⊥
    no_miss policy j h m =
        let r = get_or rs j no_release in
        let k = release_known j h in
        let job = job_at-jobs_of tasks rs j h in
        let d : (job_at (jobs_of tasks rs) j).deadline ≡ r.time + k.vertex.deadline = ap (λ x. x.deadline) job ∙ ap (λ x. r.time + x) (deadline_of_known tasks r k) in
        omega (
          arith,
          m,
          d,
          ap (λ x. x.time) job,
          ap (λ x. x.need) job,
          job_fits r k,
          done-apart policy (jobs_of tasks rs) apart (job_at (jobs_of tasks rs) j).deadline j
              (omega (arith, length-jobs_of tasks rs)),
        )

-- where each vertex fits, no job misses
pub schedulable_if_fits : (tasks : List Task) (policy : Policy) → length tasks ≡ 1 → AreConstrained tasks → All AllFit tasks → Schedulable tasks policy
schedulable_if_fits tasks policy one constrained fit rs legal j h = no_miss tasks one constrained fit rs legal policy j h

-- the release of a vertex that doesn't fit
module _ (tasks : List Task) (t : Task) (v : ℕ) (x : Vertex) (at : slice_get tasks 0 ≡ Some t) (is : slice_get t.vertices v ≡ Some x) (some_time : 1 ≤ x.wcet) where
  pub whole_legal : IsLegal tasks (whole_release v x.wcet)
  whole_legal =
      let r : Release = record { task = 0; vertex = v; time = 0; need = x.wcet } in
      let allowed : IsAllowed tasks r = rw (at, is) (some_time, omega arith) in
      legal_if_allowed tasks (r ∷ []) (All-cons (IsAllowed tasks) r [] allowed (All-nil (IsAllowed tasks))) (AllNeighbours-one (IsAllowedStep tasks) r)

  pub whole_misses : (policy : Policy) → x.deadline < x.wcet → Misses policy (jobs_of tasks (whole_release v x.wcet)) 0
  whole_misses policy h =
      let r : Release = record { task = 0; vertex = v; time = 0; need = x.wcet } in
      let d : deadline_of tasks r ≡ x.deadline = rw (at, is) in
      let e : (job_at (jobs_of tasks (r ∷ [])) 0).deadline ≡ x.deadline = omega (arith, d) in
      omega (arith, done-le policy (jobs_of tasks (r ∷ [])) 0 (job_at (jobs_of tasks (r ∷ [])) 0).deadline, e)

  whole_named : ◌≡◌ {A = Miss} (record { task = 0; index = 0; deadline = x.deadline }) (miss_of (jobs_of tasks (whole_release v x.wcet)) 0)
  whole_named =
      let r : Release = record { task = 0; vertex = v; time = 0; need = x.wcet } in
      let d : deadline_of tasks r ≡ x.deadline = rw (at, is) in
      let e : x.deadline ≡ (job_at (jobs_of tasks (r ∷ [])) 0).deadline = omega (arith, d) in
      ap (λ n. let m : Miss = record { task = 0; index = 0; deadline = n } in m) e

-- where the set is schedulable, each vertex fits
pub fits_if_schedulable : (tasks : List Task) (policy : Policy) → length tasks ≡ 1 → (version : ℕ) → IsTaskSet version tasks → Schedulable tasks policy → All AllFit tasks
fits_if_schedulable tasks policy one version ok sched k d h v x l =
    let first : k ≡ 0 = omega arith in
    let t = get_or tasks k d in
    let y = get_or t.vertices v x in
    let at : slice_get tasks 0 ≡ Some t = subst (λ i. slice_get tasks i ≡ Some t) first (slice_get-get_or tasks k d h) in
    let is : slice_get t.vertices v ≡ Some y = slice_get-get_or t.vertices v x l in
    let some_time : 1 ≤ y.wcet = ((ok.each k d h).vertices v x l).wcet.0 in
    elim (cases_lt y.deadline y.wcet) [
      | inr fits ↦ fits
      | inl late ↦ absurd (sched (whole_release v y.wcet) (whole_legal tasks t v y at is some_time) 0 (omega arith) (whole_misses tasks t v y at is some_time policy late))
    ]

-- where the one task's vertices fit, all tasks' do
all_fit : (tasks : List Task) (t : Task) → length tasks ≡ 1 → slice_get tasks 0 ≡ Some t → AllFit t → All AllFit tasks
all_fit tasks t one at fit k d h =
    let first : k ≡ 0 = omega arith in
    let e : get_or tasks 0 d ≡ t = get_or_from_slice_get tasks 0 t d at in
    subst (λ i. AllFit (get_or tasks i d)) (sym first) (subst AllFit (sym e) fit)

-- and the other way
one_fits : (tasks : List Task) (t : Task) → length tasks ≡ 1 → slice_get tasks 0 ≡ Some t → All AllFit tasks → AllFit t
one_fits tasks t one at all = subst AllFit (get_or_from_slice_get tasks 0 t t at) (all 0 t (omega arith))

pub one_task_decides : OneTaskDecides
one_task_decides version tasks t policy ok constrained one at = (
  (λ sched. one_fits tasks t one at (fits_if_schedulable tasks policy one version ok sched)),
  (λ fit. schedulable_if_fits tasks policy one constrained (all_fit tasks t one at fit)),
)

pub too_long_misses : TooLongMisses
too_long_misses version tasks t v x policy ok at is late =
    let here = get_or_from_slice_get tasks 0 t t at in
    let task : IsTask version t = subst (IsTask version) here (ok.each 0 t (slice_get_within tasks 0 t at)) in
    let there = get_or_from_slice_get t.vertices v x x is in
    let vertex : IsVertex x = subst IsVertex there (task.vertices v x (slice_get_within t.vertices v x is)) in
    let misses = whole_misses tasks t v x at is vertex.wcet.0 policy late in (
      whole_legal tasks t v x at is vertex.wcet.0,
      record {
        job = 0;
        here = omega arith;
        is = whole_named tasks t v x at is vertex.wcet.0;
        misses = misses;
        least = λ k h m. (let first : k ≡ 0 = omega arith in omega (arith, ap (λ i. (job_at (jobs_of tasks (whole_release v x.wcet)) i).deadline) first));
      },
    )
