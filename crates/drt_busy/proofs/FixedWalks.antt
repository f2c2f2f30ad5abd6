-- Under fixed priorities, a time that passes for each vertex and all walks makes a set schedulable.
use Rattle.std.proofs.Common.{inl, inr, ◌≡◌, ℕ, zero, suc, ◌+◌, ◌-◌, ◌<◌, ◌≤◌, Bool, true, false, ◌&&◌, cond, leb, ltb, List, [], ◌∷◌, length, get_or, filter, sum_by, Some, All, slice_get, refl, sym, ap, ◌∙◌, subst, arith}
use Rattle.std.proofs.lemmas.Bool.{cases_eq, cases_Bool, both_ways, leb-true, le-leb, eq-eqb, ne_eqb}
use Rattle.std.proofs.lemmas.List.Elements.{All-map, All-head, filter_passes}
use Rattle.std.proofs.lemmas.List.Sums.{sum_by-cons}
use Rattle.std.proofs.lemmas.Option.{slice_get-get_or, slice_get_within, get_or_from_slice_get}
use Rattle.drt_model.specs.declared.jobs.Job.{Job}
use Rattle.drt_model.specs.declared.jobs.Release.{Release}
use Rattle.drt_model.specs.declared.jobs.Policy.TheVariants.{Fixed}
use Rattle.drt_model.specs.declared.tasks.Task.{Task}
use Rattle.drt_model.specs.Constrained.{AreConstrained}
use Rattle.drt_model.specs.Digraph.{digraph_of, vertex_count, no_vertex}
use Rattle.drt_model.specs.Legal.{IsLegal, IsLegalPart, part_of}
use Rattle.drt_model.specs.Limits.{IsTaskSet, IsTask}
use Rattle.drt_model.specs.Schedulable.{Schedulable, job_of, jobs_of, priority_of}
use Rattle.drt_model.specs.Trace.{job_at, Misses}
use Rattle.drt_model.specs.Walk.{deadline, wcet, request_of}
use Rattle.drt_model.proofs.JobLemmas.{no_release, known, deadline_of_known, job_at-jobs_of}
use Rattle.drt_model.proofs.LegalLemmas.{allowed_if_legal}
use Rattle.drt_busy.specs.Choice.{AreWalks, graph_at, no_task, requests, task_at}
use Rattle.drt_busy.specs.Decide.{TimesSufficeForTask}
use Rattle.drt_busy.specs.Needs.{needs, is_above}
use Rattle.drt_busy.specs.PartWalk.{walk_of}
use Rattle.drt_busy.proofs.ByTask.{of_task, of_task-part, task_sums, sum-by_task, sum-map}
use Rattle.drt_busy.proofs.Laws.{misses_pass_no_time}
use Rattle.drt_busy.proofs.PartWalk.{part_walk, part_request}
use Rattle.drt_busy.proofs.Window.{window_walk, follows_later}

-- the releases from a on
abbrev from_on : ℕ → List Release → List Release
from_on a rs = filter (λ r. leb a r.time) rs

from_part : (t : Task) (a : ℕ) (rs : List Release) → IsLegalPart t rs → IsLegalPart t (from_on a rs)
from_part t a rs w = window_walk t (λ r. leb a r.time) (λ r. ⊥)
    (λ x y f h k. both_ways (leb a y.time) k (le-leb a y.time (omega (arith, leb-true a x.time h, follows_later t x y f))))
    (λ x y f h. h) (λ x h. absurd h) rs w

from_pass : (a : ℕ) (rs : List Release) → All (λ r. a ≤ r.time) (from_on a rs)
from_pass a rs k e h = leb-true a _ (filter_passes (λ r. leb a r.time) rs k e h)

from_needs : (a b : ℕ) (rs : List Release) → sum_by (λ r. cond (leb a r.time && ltb r.time b) r.need 0) rs ≡ sum_by (λ r. cond (ltb r.time b) r.need 0) (from_on a rs)
from_needs a b [] = refl
from_needs a b (r ∷ rs) = elim (cases_Bool (leb a r.time)) [
  | inl t ↦ sum_by-cons (λ x. cond (leb a x.time && ltb x.time b) x.need 0) r rs ∙ rw (t, from_needs a b rs) (sym (sum_by-cons (λ x. cond (ltb x.time b) x.need 0) r (from_on a rs)))
  | inr f ↦ sum_by-cons (λ x. cond (leb a x.time && ltb x.time b) x.need 0) r rs ∙ rw (f, from_needs a b rs) (omega arith)
]

-- what a part released from a on needs before b is asked for by its walk
pub asked : (version : ℕ) (t : Task) → IsTask version t → (a b : ℕ) (rs : List Release) → IsLegalPart t rs → All (λ r. a ≤ r.time) rs
    → sum_by (λ r. cond (ltb r.time b) r.need 0) rs ≤ request_of (digraph_of t) (walk_of rs) (b - a)
asked version t ok a b [] part from = omega arith
asked version t ok a b (r ∷ rs) part from =
    let here = All-head (λ r. a ≤ r.time) r rs from in
    part_request version t ok a b 0 r rs (omega arith) part.each part.steps

module _ (tasks : List Task) (k : ℕ) (h : k < length tasks) (p a b : ℕ) where
  pub priority_here : (r : Release) → r.task ≡ k → priority_of tasks r ≡ (task_at tasks k).priority
  priority_here r e = rw (e, slice_get-get_or tasks k no_task h) refl

  one_above : (r : Release) → r.task ≡ k → cond (is_above p a b (job_of tasks r)) r.need 0 ≡ cond (ltb (task_at tasks k).priority p && (leb a r.time && ltb r.time b)) r.need 0
  one_above r e = ap (λ x. cond (ltb x p && (leb a r.time && ltb r.time b)) r.need 0) (priority_here r e)

  part_above : (rs : List Release) → sum_by (λ r. cond (is_above p a b (job_of tasks r)) r.need 0) (part_of k rs) ≡ sum_by
      (λ r. cond (ltb (task_at tasks k).priority p && (leb a r.time && ltb r.time b)) r.need 0) (part_of k rs)
  part_above [] = refl
  part_above (r ∷ rs) = elim (cases_eq r.task k) [
    | inl e ↦ rw (eq-eqb r.task k e) (omega (
      arith,
      one_above r e,
      part_above rs,
      sum_by-cons (λ x. cond (is_above p a b (job_of tasks x)) x.need 0) r (part_of k rs),
      sum_by-cons (λ x. cond (ltb (task_at tasks k).priority p && (leb a x.time && ltb x.time b)) x.need 0) r (part_of k rs),
    ))
    | inr ne ↦ rw (ne_eqb r.task k ne) (part_above rs)
  ]

-- a test that all fail
none_counted : (q : Release → Bool) (rs : List Release) → sum_by (λ r. cond (false && q r) r.need 0) rs ≡ 0
none_counted q [] = refl
none_counted q (r ∷ rs) = omega (arith, sum_by-cons (λ x. cond (false && q x) x.need 0) r rs, none_counted q rs)

module _ (version : ℕ) (tasks : List Task) (ok : IsTaskSet version tasks) (constrained : AreConstrained tasks) (rs : List Release) (legal : IsLegal tasks rs) where
  -- the walk of what a task releases from a on
  pub walk_from : ℕ → ℕ → List ℕ
  walk_from a k = walk_of (from_on a (part_of k rs))

  part_from : (a k : ℕ) → k < length tasks → IsLegalPart (task_at tasks k) (from_on a (part_of k rs))
  part_from a k h = from_part (task_at tasks k) a (part_of k rs) (legal.parts k (task_at tasks k) (slice_get-get_or tasks k no_task h))

  pub are_walks : (a : ℕ) → AreWalks tasks (walk_from a)
  unfolding walk_from
  are_walks a k h = part_walk version (task_at tasks k) (ok.each k no_task h) (from_on a (part_of k rs)) (part_from a k h)

  part_request_le : (p a b k : ℕ) → k < length tasks
      → sum_by (λ job. cond (is_above p a b job) job.need 0) (of_task k (jobs_of tasks rs)) ≤ cond (ltb (task_at tasks k).priority p) (request_of (graph_at tasks k) (walk_from a k) (b - a)) 0
  unfolding walk_from
  part_request_le p a b k h =
      let f : Job → ℕ = λ job. cond (is_above p a b job) job.need 0 in
      let part = part_of k rs in
      let one = ap (sum_by f) (of_task-part tasks k rs) ∙ sum-map f (job_of tasks) part in
      let two = part_above tasks k h p a b rs in
      elim (cases_Bool (ltb (task_at tasks k).priority p)) [
        | inr no_higher ↦ (let three = none_counted (λ r. leb a r.time && ltb r.time b) part in rw no_higher (omega (arith, one, rw no_higher at two, three)))
        | inl higher ↦
            (let three : sum_by (λ r. cond (true && (leb a r.time && ltb r.time b)) r.need 0) part ≡ sum_by (λ r. cond (ltb r.time b) r.need 0) (from_on a part) = from_needs a b part in
            let four = asked version (task_at tasks k) (ok.each k no_task h) a b (from_on a part) (part_from a k h) (from_pass a part) in
            rw higher (omega (arith, one, rw higher at two, three, four)))
      ]

  sums_request : (p a b n : ℕ) → n ≤ length tasks → task_sums (λ job. cond (is_above p a b job) job.need 0) n (jobs_of tasks rs) ≤ requests tasks (walk_from a) p n (b - a)
  unfolding task_sums requests
  sums_request p a b zero h = omega arith
  sums_request p a b (suc n) h = omega (arith, sums_request p a b n (omega arith), part_request_le p a b n (omega arith))

  pub needs_request : (p a b : ℕ) → needs (is_above p a b) (jobs_of tasks rs) ≤ requests tasks (walk_from a) p (length tasks) (b - a)
  needs_request p a b =
      let f : Job → ℕ = λ job. cond (is_above p a b job) job.need 0 in
      let in_tasks : All (λ job. job.task < length tasks) (jobs_of tasks rs) = All-map (λ job. job.task < length tasks) (job_of tasks) rs legal.of_tasks in
      omega (arith, sum-by_task f (length tasks) (jobs_of tasks rs) in_tasks, sums_request p a b (length tasks) (omega arith))

  module _ (k : ℕ) where
    -- some time passes for each vertex of task k and all walks
    abbrev pub TaskPasses : Type 0
    TaskPasses = (v : ℕ) → v < vertex_count (graph_at tasks k) → (walks : ℕ → List ℕ) → AreWalks tasks walks
        → (t : ℕ) × (1 ≤ t) × (t ≤ deadline (graph_at tasks k) v) × (wcet (graph_at tasks k) v + requests tasks walks (task_at tasks k).priority (length tasks) t ≤ t)

    pub none_misses : TaskPasses → (m j : ℕ) → j < m → j < length rs → (get_or rs j no_release).task ≡ k → Misses Fixed (jobs_of tasks rs) j → ⊥
    none_misses pass zero j l h of_k miss = omega arith
    none_misses pass (suc m) j l h of_k miss =
        let jobs = jobs_of tasks rs in
        let r = get_or rs j no_release in
        let known_r = known tasks r (allowed_if_legal tasks rs legal j no_release h) in
        let job = job_at-jobs_of tasks rs j h in
        let earlier_of_k : (i : ℕ) → i < j → (job_at jobs i).task ≡ (job_at jobs j).task → (get_or rs i no_release).task ≡ k =
        λ i lt same. sym (ap (λ x. x.task) (job_at-jobs_of tasks rs i (omega arith))) ∙ same ∙ ap (λ x. x.task) job ∙ of_k in
        let (earlier, start) = misses_pass_no_time version tasks ok constrained rs legal j h miss
        (λ i lt same missed. none_misses pass m i (omega arith) (omega arith) (earlier_of_k i lt same) missed) in
        let (s, low, f) = start in
        let found : slice_get tasks k ≡ Some known_r.task = subst (λ n. slice_get tasks n ≡ Some known_r.task) of_k known_r.is_task in
        let task : task_at tasks k ≡ known_r.task = get_or_from_slice_get tasks k known_r.task no_task found in
        let here : r.vertex < length (task_at tasks k).vertices = subst (λ t. r.vertex < length t.vertices) (sym task)
        (slice_get_within known_r.task.vertices r.vertex known_r.vertex known_r.is_vertex) in
        let vertex = ap (λ t. get_or t.vertices r.vertex no_vertex) task ∙ get_or_from_slice_get known_r.task.vertices r.vertex known_r.vertex no_vertex known_r.is_vertex in
        let priority : (job_at jobs j).priority ≡ (task_at tasks k).priority = ap (λ x. x.priority) job ∙ rw (known_r.is_task) (ap (λ t. t.priority) (sym task)) in
        let (t, one, due, fits) = pass r.vertex here (walk_from s) (are_walks s) in
        let d : (job_at jobs j).deadline ≡ r.time + known_r.vertex.deadline = ap (λ x. x.deadline) job ∙ ap (λ x. r.time + x) (deadline_of_known tasks r known_r) in
        let over = f t one (omega (arith, d, ap (λ x. x.time) job, ap (λ x. x.deadline) vertex)) in
        let asks = needs_request (job_at jobs j).priority s (s + t) in
        let back : (s + t) - s ≡ t = omega arith in
        let asks' = rw (back, priority) at asks in
        let over' = rw priority at over in
        omega (arith, over', asks', fits, known_r.need, ap (λ x. x.need) job, ap (λ x. x.wcet) vertex)

-- where some time passes for each vertex of a task, none of its jobs misses
pub times_suffice_for_task : TimesSufficeForTask
times_suffice_for_task version tasks ok constrained k pass rs legal j h of_k miss =
    none_misses version tasks ok constrained rs legal k pass (suc j) j (omega arith) h (sym (ap (λ x. x.task) (job_at-jobs_of tasks rs j h)) ∙ of_k) miss

pub times_suffice : (version : ℕ) (tasks : List Task) → IsTaskSet version tasks → AreConstrained tasks
    → ((k v : ℕ) → k < length tasks → v < vertex_count (graph_at tasks k) → (walks : ℕ → List ℕ) → AreWalks tasks walks
    → (t : ℕ) × (1 ≤ t) × (t ≤ deadline (graph_at tasks k) v) × (wcet (graph_at tasks k) v + requests tasks walks (task_at tasks k).priority (length tasks) t ≤ t))
    → Schedulable tasks Fixed
times_suffice version tasks ok constrained pass rs legal j h miss =
    let k = (get_or rs j no_release).task in
    none_misses version tasks ok constrained rs legal k (λ v here walks are. pass k v (legal.of_tasks j no_release h) here walks are) (suc j) j (omega arith) h refl miss
