-- Under EDF, walks whose work fits their last deadlines make a set schedulable.
use Rattle.std.proofs.Common.{inl, inr, ◌⊎◌, ◌≡◌, ℕ, zero, suc, ◌+◌, ◌-◌, ◌<◌, ◌≤◌, Bool, true, false, ◌&&◌, cond, leb, List, [], ◌∷◌, length, get_or, filter, sum_by, Option, Some, None, All, IfSome, slice_get, refl, sym, ap, ◌∙◌, subst, arith}
use Rattle.std.specs.Option.{option_map, unwrap_or}
use Rattle.std.proofs.lemmas.Bool.{cases_eq, cases_lt, both_ways, leb-true, le-leb, lt-leb, and_parts, and_right, and_from, eq-eqb, ne_eqb}
use Rattle.std.proofs.lemmas.List.{get_or_past}
use Rattle.std.proofs.lemmas.List.Elements.{All-map, All-head, filter_passes}
use Rattle.std.proofs.lemmas.List.Sums.{sum_by-cons}
use Rattle.std.proofs.lemmas.Option.{slice_get-get_or, slice_get_within, get_or_from_slice_get, slice_get_past}
use Rattle.drt_model.specs.declared.jobs.Job.{Job}
use Rattle.drt_model.specs.declared.jobs.Release.{Release}
use Rattle.drt_model.specs.declared.jobs.Policy.TheVariants.{Edf}
use Rattle.drt_model.specs.declared.tasks.Edge.{Edge}
use Rattle.drt_model.specs.declared.tasks.Task.{Task}
use Rattle.drt_model.specs.declared.tasks.Vertex.{Vertex}
use Rattle.drt_model.specs.Constrained.{AreConstrained, IsConstrainedEdge}
use Rattle.drt_model.specs.Digraph.{digraph_of, no_vertex}
use Rattle.drt_model.specs.Legal.{IsLegal, IsLegalPart, Follows, part_of}
use Rattle.drt_model.specs.Limits.{IsTaskSet, IsTask, IsVertex}
use Rattle.drt_model.specs.Schedulable.{Schedulable, job_of, jobs_of, deadline_of}
use Rattle.drt_model.specs.Trace.{job_at, Misses}
use Rattle.drt_model.specs.Walk.{deadline, work, due_of}
use Rattle.drt_model.proofs.JobLemmas.{no_release, known, deadline_of_known, job_at-jobs_of}
use Rattle.drt_model.proofs.LegalLemmas.{allowed_if_legal}
use Rattle.drt_busy.specs.Choice.{AreDueBy, AreWalks, efforts, graph_at, no_task, task_at}
use Rattle.drt_busy.specs.Needs.{needs, is_due}
use Rattle.drt_busy.specs.PartWalk.{walk_of}
use Rattle.drt_busy.proofs.ByTask.{of_task, of_task-part, task_sums, sum-by_task, sum-map}
use Rattle.drt_busy.proofs.Laws.{misses_overload}
use Rattle.drt_busy.proofs.PartWalk.{part_walk, part_work, part_due}
use Rattle.drt_busy.proofs.Window.{window_walk, needs_within, follows_later}

-- the deadline of a vertex, found or not
pub deadline_is : (t : Task) (u : ℕ) → unwrap_or (option_map (λ v. v.deadline) (slice_get t.vertices u)) 0 ≡ deadline (digraph_of t) u
deadline_is t u = by_range (cases_lt u (length t.vertices)) where
  by_range : (u < length t.vertices) ⊎ (length t.vertices ≤ u) → unwrap_or (option_map (λ v. v.deadline) (slice_get t.vertices u)) 0 ≡ deadline (digraph_of t) u
  by_range (inl h) = rw (slice_get-get_or t.vertices u no_vertex h) refl
  by_range (inr h) = rw (slice_get_past t.vertices u h) (sym (ap (λ v. v.deadline) (get_or_past t.vertices u no_vertex h)))

abbrev is_due_within : Task → ℕ → ℕ → Release → Bool
is_due_within t s d r = leb s r.time && leb (r.time + deadline (digraph_of t) r.vertex) d

pub source_due : (t : Task) (e : Edge) (o : Option Vertex) → slice_get t.vertices e.from ≡ o → IfSome o (λ v. v.deadline ≤ e.sep) → deadline (digraph_of t) e.from ≤ e.sep
source_due t e None at c = (let f = deadline_is t e.from in let z : unwrap_or (option_map (λ v. v.deadline) (slice_get t.vertices e.from)) 0 ≡ 0 = rw at refl in omega arith)
source_due t e (Some v) at c = (let f = deadline_is t e.from in let z : unwrap_or (option_map (λ v. v.deadline) (slice_get t.vertices e.from)) 0 ≡ v.deadline = rw at refl in omega arith)

module _ (t : Task) (constrained : All (IsConstrainedEdge t) t.edges) where
  -- a release is due by the next one
  pub due_by_next : (x y : Release) → Follows t x y → x.time + deadline (digraph_of t) x.vertex ≤ y.time
  due_by_next x y (i, e, h, at, (from, to, sep)) =
      let c : IsConstrainedEdge t e = subst (IsConstrainedEdge t) at (constrained i e h) in
      let le = source_due t e (slice_get t.vertices e.from) refl c in
      let same : deadline (digraph_of t) e.from ≡ deadline (digraph_of t) x.vertex = ap (deadline (digraph_of t)) from in
      omega arith

  module _ (s d : ℕ) where
    due_leaves : (x y : Release) → Follows t x y → is_due_within t s d x ≡ true → is_due_within t s d y ≡ false → d < y.time + deadline (digraph_of t) y.vertex
    due_leaves x y f h k =
        let (low, high) = and_parts (leb s x.time) (leb (x.time + deadline (digraph_of t) x.vertex) d) h in
        elim (cases_lt d (y.time + deadline (digraph_of t) y.vertex)) [
          | inl over ↦ over
          | inr under ↦ absurd (both_ways (is_due_within t s d y) k
              (and_from (leb s y.time) (leb (y.time + deadline (digraph_of t) y.vertex) d) (le-leb s y.time (omega (arith, leb-true s x.time low, follows_later t x y f)))
              (le-leb (y.time + deadline (digraph_of t) y.vertex) d under)))
        ]

    due_stays : (x y : Release) → Follows t x y → d < x.time + deadline (digraph_of t) x.vertex → d < y.time + deadline (digraph_of t) y.vertex
    due_stays x y f h = omega (arith, due_by_next x y f)

    due_out : (x : Release) → d < x.time + deadline (digraph_of t) x.vertex → is_due_within t s d x ≡ false
    due_out x h = and_right (leb s x.time) (leb (x.time + deadline (digraph_of t) x.vertex) d) (lt-leb (x.time + deadline (digraph_of t) x.vertex) d h)

    due_part : (rs : List Release) → IsLegalPart t rs → IsLegalPart t (filter (is_due_within t s d) rs)
    due_part rs w = window_walk t (is_due_within t s d) (λ r. d < r.time + deadline (digraph_of t) r.vertex) due_leaves due_stays due_out rs w

    due_pass : (rs : List Release) → All (λ r. (s ≤ r.time) × (r.time + deadline (digraph_of t) r.vertex ≤ d)) (filter (is_due_within t s d) rs)
    due_pass rs k e h =
        let r = get_or (filter (is_due_within t s d) rs) k e in
        let (low, high) = and_parts (leb s r.time) (leb (r.time + deadline (digraph_of t) r.vertex) d) (filter_passes (is_due_within t s d) rs k e h) in
        (leb-true s r.time low, leb-true (r.time + deadline (digraph_of t) r.vertex) d high)

-- a window's releases are due within its length
pub window_due : (version : ℕ) (t : Task) → IsTask version t → (s d : ℕ) → s ≤ d → (rs : List Release) → IsLegalPart t rs
    → All (λ r. (s ≤ r.time) × (r.time + deadline (digraph_of t) r.vertex ≤ d)) rs → due_of (digraph_of t) (walk_of rs) ≤ d - s
window_due version t ok s d le [] part all = omega arith
window_due version t ok s d le (r ∷ rs) part all =
    let here = All-head (λ r. (s ≤ r.time) × (r.time + deadline (digraph_of t) r.vertex ≤ d)) r rs all in
    let due = part_due version t ok s d r rs here.0 (λ k e h. (all k e h).1) part.steps in
    omega arith

module _ (tasks : List Task) (k : ℕ) (h : k < length tasks) (s d : ℕ) where
  pub deadline_here : (r : Release) → r.task ≡ k → deadline_of tasks r ≡ deadline (graph_at tasks k) r.vertex
  deadline_here r e = rw (e, slice_get-get_or tasks k no_task h) (deadline_is (task_at tasks k) r.vertex)

  one_due : (r : Release) → r.task ≡ k → cond (is_due s d (job_of tasks r)) r.need 0 ≡ cond (is_due_within (task_at tasks k) s d r) r.need 0
  one_due r e = ap (λ x. cond (leb s r.time && leb (r.time + x) d) r.need 0) (deadline_here r e)

  part_needs : (rs : List Release) → sum_by (λ r. cond (is_due s d (job_of tasks r)) r.need 0) (part_of k rs) ≡ sum_by (λ r. cond (is_due_within (task_at tasks k) s d r) r.need 0) (part_of k rs)
  part_needs [] = refl
  part_needs (r ∷ rs) = elim (cases_eq r.task k) [
    | inl e ↦ rw (eq-eqb r.task k e) (omega (
      arith,
      one_due r e,
      part_needs rs,
      sum_by-cons (λ x. cond (is_due s d (job_of tasks x)) x.need 0) r (part_of k rs),
      sum_by-cons (λ x. cond (is_due_within (task_at tasks k) s d x) x.need 0) r (part_of k rs),
    ))
    | inr ne ↦ rw (ne_eqb r.task k ne) (part_needs rs)
  ]

module _ (version : ℕ) (tasks : List Task) (ok : IsTaskSet version tasks) (constrained : AreConstrained tasks) (rs : List Release) (legal : IsLegal tasks rs) where
  -- the walk of what a task releases at s or later that is due by d
  walk_within : ℕ → ℕ → ℕ → List ℕ
  walk_within s d k = walk_of (filter (is_due_within (task_at tasks k) s d) (part_of k rs))

  part_within : (s d k : ℕ) → k < length tasks → IsLegalPart (task_at tasks k) (filter (is_due_within (task_at tasks k) s d) (part_of k rs))
  part_within s d k h = due_part (task_at tasks k) (constrained k no_task h) s d (part_of k rs) (legal.parts k (task_at tasks k) (slice_get-get_or tasks k no_task h))

  are_walks : (s d : ℕ) → AreWalks tasks (walk_within s d)
  unfolding walk_within
  are_walks s d k h = part_walk version (task_at tasks k) (ok.each k no_task h) (filter (is_due_within (task_at tasks k) s d) (part_of k rs)) (part_within s d k h)

  are_due : (s d : ℕ) → s ≤ d → AreDueBy tasks (walk_within s d) (d - s)
  unfolding walk_within
  are_due s d le k h =
      window_due version (task_at tasks k) (ok.each k no_task h) s d le (filter (is_due_within (task_at tasks k) s d) (part_of k rs)) (part_within s d k h)
      (due_pass (task_at tasks k) (constrained k no_task h) s d (part_of k rs))

  part_effort : (s d k : ℕ) → k < length tasks → sum_by (λ job. cond (is_due s d job) job.need 0) (of_task k (jobs_of tasks rs)) ≤ work (graph_at tasks k) (walk_within s d k)
  unfolding walk_within
  part_effort s d k h =
      let f : Job → ℕ = λ job. cond (is_due s d job) job.need 0 in
      let part = part_of k rs in
      let q = is_due_within (task_at tasks k) s d in
      let one = ap (sum_by f) (of_task-part tasks k rs) ∙ sum-map f (job_of tasks) part in
      let two = part_needs tasks k h s d rs in
      let three = needs_within q part in
      let four = part_work version (task_at tasks k) (ok.each k no_task h) (filter q part) (part_within s d k h).each in
      omega (arith, one, two, three, four)

  sums_effort : (s d n : ℕ) → n ≤ length tasks → task_sums (λ job. cond (is_due s d job) job.need 0) n (jobs_of tasks rs) ≤ efforts tasks (walk_within s d) n
  unfolding task_sums efforts
  sums_effort s d zero h = omega arith
  sums_effort s d (suc n) h = omega (arith, sums_effort s d n (omega arith), part_effort s d n (omega arith))

  needs_effort : (s d : ℕ) → needs (is_due s d) (jobs_of tasks rs) ≤ efforts tasks (walk_within s d) (length tasks)
  needs_effort s d =
      let f : Job → ℕ = λ job. cond (is_due s d job) job.need 0 in
      let in_tasks : All (λ job. job.task < length tasks) (jobs_of tasks rs) = All-map (λ job. job.task < length tasks) (job_of tasks) rs legal.of_tasks in
      omega (arith, sum-by_task f (length tasks) (jobs_of tasks rs) in_tasks, sums_effort s d (length tasks) (omega arith))

  -- a job is due after its release
  pub due_after : (j : ℕ) → j < length rs → (job_at (jobs_of tasks rs) j).time < (job_at (jobs_of tasks rs) j).deadline
  due_after j h =
      let r = get_or rs j no_release in
      let k = known tasks r (allowed_if_legal tasks rs legal j no_release h) in
      let job = job_at-jobs_of tasks rs j h in
      let t = get_or_from_slice_get tasks r.task k.task k.task k.is_task in
      let v = get_or_from_slice_get k.task.vertices r.vertex k.vertex k.vertex k.is_vertex in
      let one : IsTask version k.task = subst (IsTask version) t (ok.each r.task k.task (slice_get_within tasks r.task k.task k.is_task)) in
      let two : IsVertex k.vertex = subst IsVertex v (one.vertices r.vertex k.vertex (slice_get_within k.task.vertices r.vertex k.vertex k.is_vertex)) in
      omega (arith, ap (λ x. x.time) job, ap (λ x. x.deadline) job, deadline_of_known tasks r k, two.deadline.0)

  none_misses : ((t : ℕ) (walks : ℕ → List ℕ) → AreWalks tasks walks → AreDueBy tasks walks t → efforts tasks walks (length tasks) ≤ t) → (j : ℕ) → j < length rs → Misses Edf (jobs_of tasks rs) j → ⊥
  none_misses fits j h miss =
      let jobs = jobs_of tasks rs in
      let d = (job_at jobs j).deadline in
      let (s, lt, over) = misses_overload jobs j (due_after j h) miss in
      let fit = fits (d - s) (walk_within s d) (are_walks s d) (are_due s d (omega arith)) in
      omega (arith, over, fit, needs_effort s d)

pub deadlines_suffice : (version : ℕ) (tasks : List Task) → IsTaskSet version tasks → AreConstrained tasks
    → ((t : ℕ) (walks : ℕ → List ℕ) → AreWalks tasks walks → AreDueBy tasks walks t → efforts tasks walks (length tasks) ≤ t)
    → Schedulable tasks Edf
deadlines_suffice version tasks ok constrained fits rs legal j h miss = none_misses version tasks ok constrained rs legal fits j h miss
