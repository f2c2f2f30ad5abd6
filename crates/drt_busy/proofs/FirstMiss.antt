-- The first miss of a task: the task's earlier jobs are done when its job is released.
use Rattle.std.proofs.Common.{inl, inr, ◌≡◌, ℕ, zero, suc, ◌+◌, ◌-◌, ◌<◌, ◌≤◌, List, length, get_or, All, sym, ap, ◌∙◌, subst, arith}
use Rattle.std.proofs.lemmas.Bool.{cases_lt, cases_order}
use Rattle.std.proofs.lemmas.List.{get_or_past}
use Rattle.std.proofs.lemmas.Option.{get_or_from_slice_get, slice_get_within}
use Rattle.drt_model.specs.declared.tasks.Task.{Task}
use Rattle.drt_model.specs.declared.jobs.Release.{Release}
use Rattle.drt_model.specs.declared.jobs.Policy.TheVariants.{Fixed}
use Rattle.drt_model.specs.Limits.{IsTaskSet, IsEdgeAmong}
use Rattle.drt_model.specs.Legal.{IsLegal, Follows}
use Rattle.drt_model.specs.Trace.{job_at, done, Misses}
use Rattle.drt_model.specs.Schedulable.{jobs_of, priority_of}
use Rattle.drt_model.proofs.LegalLemmas.{allowed_if_legal, step_if_legal}
use Rattle.drt_model.proofs.MachineLemmas.{done_mono_le}
use Rattle.drt_model.proofs.JobLemmas.{no_release, Known, known, deadline_of_known, length-jobs_of, job_at-jobs_of}
use Rattle.drt_model.specs.Constrained.{IsConstrainedEdge, AreConstrained}
use Rattle.drt_busy.proofs.Fixed.{AreEarlierDone}

-- the priority of a release's task
pub priority_of_known : (tasks : List Task) (r : Release) (k : Known tasks r) → priority_of tasks r ≡ k.task.priority
priority_of_known tasks r k = rw k.is_task

-- tasks of one priority are one task
pub same_task : (version : ℕ) (tasks : List Task) → IsTaskSet version tasks → (r s : Release) → Known tasks r → Known tasks s → priority_of tasks r ≡ priority_of tasks s → r.task ≡ s.task
same_task version tasks ok r s k l e =
    let hr = slice_get_within tasks r.task k.task k.is_task in
    let hs = slice_get_within tasks s.task l.task l.is_task in
    let tr : get_or tasks r.task k.task ≡ k.task = get_or_from_slice_get tasks r.task k.task k.task k.is_task in
    let ts : get_or tasks s.task k.task ≡ l.task = get_or_from_slice_get tasks s.task l.task k.task l.is_task in
    let same : (get_or tasks r.task k.task).priority ≡ (get_or tasks s.task k.task).priority = ap (λ x. x.priority) tr ∙ sym (priority_of_known tasks r k) ∙ e
    ∙ priority_of_known tasks s l ∙ ap (λ x. x.priority) (sym ts) in
    elim (cases_order r.task s.task) [
      | inl done' ↦ done'
      | inr (inl lt) ↦ absurd (ok.distinct_priorities r.task s.task k.task lt hs same)
      | inr (inr gt) ↦ absurd (ok.distinct_priorities s.task r.task k.task gt hr (sym same))
    ]

module _ (version : ℕ) (tasks : List Task) (ok : IsTaskSet version tasks) (constrained : AreConstrained tasks) where
  -- what a step from r to s says of their times
  next_later : (r s : Release) (k : Known tasks r) → Follows k.task r s → (r.time + k.vertex.deadline ≤ s.time) × (r.time < s.time)
  next_later r s k (i, e, h, at, (from, to, sep)) =
      let here = slice_get_within tasks r.task k.task k.is_task in
      let t : get_or tasks r.task k.task ≡ k.task = get_or_from_slice_get tasks r.task k.task k.task k.is_task in
      let c : All (IsConstrainedEdge k.task) k.task.edges = subst (λ x. All (IsConstrainedEdge x) x.edges) t (constrained r.task k.task here) in
      let l : All (IsEdgeAmong (length k.task.vertices)) k.task.edges = subst (λ x. All (IsEdgeAmong (length x.vertices)) x.edges) t (ok.each r.task k.task here).edges in
      let ce : IsConstrainedEdge k.task e = subst (IsConstrainedEdge k.task) at (c i e h) in
      let le : IsEdgeAmong (length k.task.vertices) e = subst (IsEdgeAmong (length k.task.vertices)) at (l i e h) in
      let d : k.vertex.deadline ≤ e.sep = rw (from, k.is_vertex) at ce in
      (omega arith, omega (arith, le.sep.0))

  module _ (rs : List Release) (legal : IsLegal tasks rs) where
    release : ℕ → Release
    release j = get_or rs j no_release

    release_known : (j : ℕ) → j < length rs → Known tasks (get_or rs j no_release)
    release_known j h = known tasks (get_or rs j no_release) (allowed_if_legal tasks rs legal j no_release h)

    task_mono : (i m : ℕ) → i + m < length rs → (get_or rs i no_release).task ≤ (get_or rs (i + m) no_release).task
    task_mono i zero h = (let e : i + zero ≡ i = omega arith in rw e (omega arith))
    task_mono i (suc m) h =
        let e : i + suc m ≡ (i + m) + 1 = omega arith in
        rw e (omega (arith, task_mono i m (omega arith), legal.in_order (i + m) no_release (omega arith)))

    -- a step within a task
    step_within : (i : ℕ) (h : i + 1 < length rs) (k : Known tasks (get_or rs i no_release)) → (get_or rs i no_release).task ≡ (get_or rs (i + 1) no_release).task
        → ((get_or rs i no_release).time + k.vertex.deadline ≤ (get_or rs (i + 1) no_release).time) × ((get_or rs i no_release).time < (get_or rs (i + 1) no_release).time)
    step_within i h k same = elim (step_if_legal tasks rs legal i no_release h) [
      | inl later ↦ absurd (omega arith)
      | inr step ↦ next_later (get_or rs i no_release) (get_or rs (i + 1) no_release) k (rw k.is_task at step.1)
    ]

    -- a job is due before a later one of its task is released
    due_before : (i m : ℕ) (h : i + suc m < length rs) (k : Known tasks (get_or rs i no_release))
        → (get_or rs i no_release).task ≡ (get_or rs (i + suc m) no_release).task
        → ((get_or rs i no_release).time + k.vertex.deadline ≤ (get_or rs (i + suc m) no_release).time) × ((get_or rs i no_release).time < (get_or rs (i + suc m) no_release).time)
    due_before i zero h k same =
        let e : i + suc zero ≡ i + 1 = omega arith in
        rw e (step_within i (omega arith) k (rw e at same))
    due_before i (suc m) h k same =
        let e : i + suc (suc m) ≡ (i + suc m) + 1 = omega arith in
        let same' : (get_or rs i no_release).task ≡ (get_or rs ((i + suc m) + 1) no_release).task = rw e at same in
        let low = task_mono i (suc m) (omega arith) in
        let high = legal.in_order (i + suc m) no_release (omega arith) in
        let mid : (get_or rs i no_release).task ≡ (get_or rs (i + suc m) no_release).task = omega arith in
        let before = due_before i m (omega arith) k mid in
        let k' = release_known (i + suc m) (omega arith) in
        let next = step_within (i + suc m) (omega arith) k' (omega arith) in
        rw e (omega arith, omega arith)

    -- a later job of the same task is released later
    pub task_later : (i j : ℕ) → i < j → j < length rs → (get_or rs i no_release).task ≡ (get_or rs j no_release).task → (get_or rs i no_release).time ≤ (get_or rs j no_release).time
    task_later i j lt h same =
        let e : i + suc (j - (i + 1)) ≡ j = omega arith in
        let due = due_before i (j - (i + 1)) (omega arith) (release_known i (omega arith)) (rw e same) in
        let after : (get_or rs i no_release).time < (get_or rs j no_release).time = rw e at due.1 in
        omega arith

    -- the first miss of a task
    pub earlier_done : (j : ℕ) → j < length rs → ((i : ℕ) → i < j → (get_or rs i no_release).task ≡ (get_or rs j no_release).task → Misses Fixed (jobs_of tasks rs) i → ⊥)
        → AreEarlierDone (jobs_of tasks rs) j
    earlier_done j l no_miss i ne same time =
        let jobs = jobs_of tasks rs in
        elim (cases_lt i (length rs)) [
          | inr past ↦ omega (arith, ap (λ x. x.need) (get_or_past jobs i (record { task = 0; priority = 0; time = 0; deadline = 0; need = 0 }) (omega (arith, length-jobs_of tasks rs))))
          | inl here ↦
              (let ji = job_at-jobs_of tasks rs i here in
              let jj = job_at-jobs_of tasks rs j l in
              let k = release_known i here in
              let same' : (get_or rs i no_release).task ≡ (get_or rs j no_release).task = same_task version tasks ok (get_or rs i no_release) (get_or rs j no_release) k
              (release_known j l) (sym (ap (λ x. x.priority) ji) ∙ same ∙ ap (λ x. x.priority) jj) in
              let ti = ap (λ x. x.time) ji in
              let tj = ap (λ x. x.time) jj in
              let d : (job_at jobs i).deadline ≡ (get_or rs i no_release).time + k.vertex.deadline = ap (λ x. x.deadline) ji
              ∙ ap (λ x. (get_or rs i no_release).time + x) (deadline_of_known tasks (get_or rs i no_release) k) in
              elim (cases_order i j) [
                | inl e ↦ absurd (ne e)
                | inr (inl lt) ↦
                    (let e : i + suc (j - (i + 1)) ≡ j = omega arith in
                    let due = due_before i (j - (i + 1)) (omega arith) k (rw e same') in
                    let due' : (get_or rs i no_release).time + k.vertex.deadline ≤ (get_or rs j no_release).time = rw e at due.0 in
                    elim (cases_lt (done Fixed jobs i (job_at jobs i).deadline) (job_at jobs i).need) [
                      | inl miss ↦ absurd (no_miss i lt same' miss)
                      | inr met ↦ omega (arith, met, done_mono_le Fixed jobs i (job_at jobs i).deadline (job_at jobs j).time (omega arith))
                    ])
                | inr (inr gt) ↦
                    (let e : j + suc (i - (j + 1)) ≡ i = omega arith in
                    let due = due_before j (i - (j + 1)) (omega arith) (release_known j l) (rw e (sym same')) in
                    let later : (get_or rs j no_release).time < (get_or rs i no_release).time = rw e at due.1 in
                    absurd (omega arith))
              ])
        ]
