-- The releases of walks are legal, and what they need.
use Rattle.std.proofs.Common.{inl, inr, ◌≡◌, ℕ, zero, suc, ◌+◌, ◌<◌, ◌≤◌, true, false, ◌&&◌, cond, eqb, leb, ltb, List, [], ◌∷◌, ◌++◌, length, get_or, sum_by, Some, All, slice_get, refl, sym, ap, ◌∙◌, subst, arith}
use Rattle.std.proofs.lemmas.Bool.{cases_Bool, eqb-true, le-leb}
use Rattle.std.proofs.lemmas.List.Elements.{All-nil, All-cons, All-append, All-weaker}
use Rattle.std.proofs.lemmas.List.Sums.{sum_by-cons, sum_by-append}
use Rattle.std.proofs.lemmas.Option.{slice_get-get_or, same_Some}
use Rattle.drt_model.specs.declared.jobs.Release.{Release}
use Rattle.drt_model.specs.declared.tasks.Edge.{Edge}
use Rattle.drt_model.specs.declared.tasks.Task.{Task}
use Rattle.drt_model.specs.Constrained.{AreConstrained, IsConstrainedEdge}
use Rattle.drt_model.specs.Digraph.{Digraph, digraph_of, edges_from, vertex_count, no_vertex}
use Rattle.drt_model.specs.Legal.{AllNeighbours, Follows, IsAllowed, IsAllowedStep, IsLegal, IsReleaseOf}
use Rattle.drt_model.specs.Limits.{IsTaskSet, IsTask, IsEdgeAmong, IsVertex}
use Rattle.drt_model.specs.Schedulable.{job_of, jobs_of, deadline_of}
use Rattle.drt_model.specs.Walk.{sep_in, gap, IsEdge, IsPath, wcet, deadline, last_of, span, work, requested_from, IsWalk, due_of, request_of}
use Rattle.drt_model.proofs.LegalLemmas.{legal_if_allowed}
use Rattle.drt_model.proofs.Neighbours.{filter-yes, filter-no, AllNeighbours-nil, AllNeighbours-one, AllNeighbours-cons, AllNeighbours-head, AllNeighbours-tail}
use Rattle.drt_busy.specs.Choice.{AreDueBy, AreWalks, efforts, graph_at, no_task, requests, task_at}
use Rattle.drt_busy.specs.Needs.{needs, is_above, is_due}
use Rattle.drt_busy.specs.WalkReleases.{all_releases, release_at, releases_from, releases_of}
use Rattle.drt_busy.proofs.ByTask.{sum-map}
use Rattle.drt_busy.proofs.EdfWalks.{deadline_here, source_due}
use Rattle.drt_busy.proofs.FixedWalks.{priority_here}
use Rattle.drt_busy.proofs.PartWalk.{out_is}

-- neighbours in two lists one after the other
append_neighbours : {X : Type 0} (R : X → X → Type 0) (P Q : X → Type 0) (xs ys : List X) → AllNeighbours R xs → AllNeighbours R ys → All P xs → All Q ys
    → ((x y : X) → P x → Q y → R x y) → AllNeighbours R (xs ++ ys)
append_neighbours R P Q [] ys a b p q cross = b
append_neighbours R P Q (x ∷ []) [] a b p q cross = AllNeighbours-one R x
append_neighbours R P Q (x ∷ []) (y ∷ ys) a b p q cross = AllNeighbours-cons R x y ys (cross x y (p 0 x (omega arith)) (q 0 y (omega arith))) b
append_neighbours R P Q (x ∷ (z ∷ xs)) ys a b p q cross =
    AllNeighbours-cons R x z (xs ++ ys) (AllNeighbours-head R x z xs a)
    (append_neighbours R P Q (z ∷ xs) ys (AllNeighbours-tail R x (z ∷ xs) a) b (λ k d h. p (suc k) d (omega arith)) q cross)

-- the edge that the graph finds is one of the list
sep_last : (edges : List Edge) (u v p : ℕ) → sep_in (edges_from edges u) v ≡ Some p → (i : ℕ) × (e : Edge) × (i < length edges) × (get_or edges i e ≡ e) × (e.from ≡ u) × (e.to ≡ v) × (e.sep ≡ p)
unfolding sep_in
sep_last [] u v p h = absurd (cc)
sep_last (x ∷ xs) u v p h = elim (cases_Bool (eqb x.from u)) [
  | inr f ↦ (let h' = rw (filter-no (λ y. eqb y.from u) x xs f) at h in
      let (i, e, l, at, a, b, c) = sep_last xs u v p h' in (suc i, e, omega arith, at, a, b, c))
  | inl t ↦ (let h' = rw (filter-yes (λ y. eqb y.from u) x xs t) at h in
      elim (cases_Bool (eqb x.to v)) [
        | inl g ↦ (0, x, omega arith, refl, eqb-true x.from u t, eqb-true x.to v g, same_Some x.sep p (rw g at h'))
        | inr g ↦ (let (i, e, l, at, a, b, c) = sep_last xs u v p (rw g at h') in (suc i, e, omega arith, at, a, b, c))
      ])
]

module _ (version : ℕ) (t : Task) (ok : IsTask version t) where
  -- an edge of the graph is one of the task
  edge_is : (u v : ℕ) → u < length t.vertices → IsEdge (digraph_of t) u v → (i : ℕ) × (e : Edge) × (i < length t.edges) × (get_or t.edges i e ≡ e) × (e.from ≡ u)
      × (e.to ≡ v) × (e.sep ≡ gap (digraph_of t) u v)
  edge_is u v h edge = sep_last t.edges u v (gap (digraph_of t) u v) (ap (λ es. sep_in es v) (sym (out_is version t ok u h)) ∙ edge)

  edge_to : (u v : ℕ) → u < length t.vertices → IsEdge (digraph_of t) u v → v < length t.vertices
  edge_to u v h edge =
      let (i, e, l, at, a, b, c) = edge_is u v h edge in
      let among : IsEdgeAmong (length t.vertices) e = subst (IsEdgeAmong (length t.vertices)) at (ok.edges i e l) in
      omega (arith, among.to)

  edge_due : All (IsConstrainedEdge t) t.edges → (u v : ℕ) → u < length t.vertices → IsEdge (digraph_of t) u v → deadline (digraph_of t) u ≤ gap (digraph_of t) u v
  edge_due constrained u v h edge =
      let (i, e, l, at, a, b, c) = edge_is u v h edge in
      let ce : IsConstrainedEdge t e = subst (IsConstrainedEdge t) at (constrained i e l) in
      let le = source_due t e (slice_get t.vertices e.from) refl ce in
      let same : deadline (digraph_of t) e.from ≡ deadline (digraph_of t) u = ap (deadline (digraph_of t)) a in
      omega arith

  vertex_release : (k x u : ℕ) → u < length t.vertices → IsReleaseOf t (release_at (digraph_of t) k x u)
  vertex_release k x u h =
      let vertex : IsVertex (get_or t.vertices u no_vertex) = ok.vertices u no_vertex h in
      rw (slice_get-get_or t.vertices u no_vertex h) (vertex.wcet.0, omega arith)

  module _ (tasks : List Task) (k : ℕ) (at_k : slice_get tasks k ≡ Some t) where
    from_allowed : (x u : ℕ) (vs : List ℕ) → u < length t.vertices → IsPath (digraph_of t) u vs → All (IsAllowed tasks) (releases_from (digraph_of t) k x u vs)
    unfolding releases_from
    from_allowed x u [] h path = All-cons (IsAllowed tasks) (release_at (digraph_of t) k x u) [] (rw at_k (vertex_release k x u h)) (All-nil (IsAllowed tasks))
    from_allowed x u (v ∷ vs) h path =
        All-cons (IsAllowed tasks) (release_at (digraph_of t) k x u) (releases_from (digraph_of t) k (x + gap (digraph_of t) u v) v vs) (rw at_k (vertex_release k x u h))
        (from_allowed (x + gap (digraph_of t) u v) v vs (edge_to u v h path.0) path.1)

    step_allowed : (x u v : ℕ) → u < length t.vertices → IsEdge (digraph_of t) u v → IsAllowedStep tasks (release_at (digraph_of t) k x u) (release_at (digraph_of t) k (x + gap (digraph_of t) u v) v)
    step_allowed x u v h edge =
        let (i, e, l, at, a, b, c) = edge_is u v h edge in
        let follows : Follows t (release_at (digraph_of t) k x u) (release_at (digraph_of t) k (x + gap (digraph_of t) u v) v) = (i, e, l, at, (a, b, omega arith)) in
        inr (refl, rw at_k follows)

    from_steps : (x u : ℕ) (vs : List ℕ) → u < length t.vertices → IsPath (digraph_of t) u vs → AllNeighbours (IsAllowedStep tasks) (releases_from (digraph_of t) k x u vs)
    unfolding releases_from
    from_steps x u [] h path = AllNeighbours-one (IsAllowedStep tasks) (release_at (digraph_of t) k x u)
    from_steps x u (v ∷ []) h path =
        AllNeighbours-cons (IsAllowedStep tasks) (release_at (digraph_of t) k x u) (release_at (digraph_of t) k (x + gap (digraph_of t) u v) v) []
        (step_allowed x u v h path.0) (from_steps (x + gap (digraph_of t) u v) v [] (edge_to u v h path.0) path.1)
    from_steps x u (v ∷ (w ∷ vs)) h path =
        AllNeighbours-cons (IsAllowedStep tasks) (release_at (digraph_of t) k x u) (release_at (digraph_of t) k (x + gap (digraph_of t) u v) v)
        (releases_from (digraph_of t) k (x + gap (digraph_of t) u v + gap (digraph_of t) v w) w vs)
        (step_allowed x u v h path.0) (from_steps (x + gap (digraph_of t) u v) v (w ∷ vs) (edge_to u v h path.0) path.1)

-- the releases of task k are of task k
from_task : (g : Digraph) (k x u : ℕ) (vs : List ℕ) → All (λ r. r.task ≡ k) (releases_from g k x u vs)
unfolding releases_from
from_task g k x u [] = All-cons (λ r. r.task ≡ k) (release_at g k x u) [] refl (All-nil (λ r. r.task ≡ k))
from_task g k x u (v ∷ vs) = All-cons (λ r. r.task ≡ k) (release_at g k x u) (releases_from g k (x + gap g u v) v vs) refl (from_task g k (x + gap g u v) v vs)

of_task : (g : Digraph) (k : ℕ) (walk : List ℕ) → All (λ r. r.task ≡ k) (releases_of g k walk)
of_task g k [] = All-nil (λ r. r.task ≡ k)
of_task g k (u ∷ vs) = from_task g k 0 u vs

module _ (version : ℕ) (tasks : List Task) (ok : IsTaskSet version tasks) where
  task_allowed : (k : ℕ) → k < length tasks → (walk : List ℕ) → IsWalk (graph_at tasks k) walk → All (IsAllowed tasks) (releases_of (graph_at tasks k) k walk)
      × AllNeighbours (IsAllowedStep tasks) (releases_of (graph_at tasks k) k walk)
  task_allowed k h [] w = (All-nil (IsAllowed tasks), AllNeighbours-nil (IsAllowedStep tasks))
  task_allowed k h (u ∷ vs) w =
      let at_k = slice_get-get_or tasks k no_task h in
      (from_allowed version (task_at tasks k) (ok.each k no_task h) tasks k at_k 0 u vs w.0 w.1, from_steps version (task_at tasks k) (ok.each k no_task h) tasks k at_k 0 u vs w.0 w.1)

  module _ (walks : ℕ → List ℕ) (are : AreWalks tasks walks) where
    below : (n : ℕ) → All (λ r. r.task < n) (all_releases tasks walks n)
    unfolding all_releases
    below zero = All-nil (λ r. r.task < 0)
    below (suc k) = All-append (λ r. r.task < suc k) (all_releases tasks walks k) (releases_of (graph_at tasks k) k (walks k))
        (All-weaker (λ r. r.task < k) (λ r. r.task < suc k) (λ r h. omega arith) (all_releases tasks walks k) (below k))
        (All-weaker (λ r. r.task ≡ k) (λ r. r.task < suc k) (λ r h. omega arith) (releases_of (graph_at tasks k) k (walks k)) (of_task (graph_at tasks k) k (walks k)))

    all_allowed : (n : ℕ) → n ≤ length tasks → All (IsAllowed tasks) (all_releases tasks walks n) × AllNeighbours (IsAllowedStep tasks) (all_releases tasks walks n)
    unfolding all_releases
    all_allowed zero h = (All-nil (IsAllowed tasks), AllNeighbours-nil (IsAllowedStep tasks))
    all_allowed (suc k) h =
        let (each, steps) = all_allowed k (omega arith) in
        let (each', steps') = task_allowed k h (walks k) (are k h) in (
          All-append (IsAllowed tasks) (all_releases tasks walks k) (releases_of (graph_at tasks k) k (walks k)) each each',
          append_neighbours (IsAllowedStep tasks) (λ r. r.task < k) (λ r. r.task ≡ k) (all_releases tasks walks k) (releases_of (graph_at tasks k) k (walks k)) steps steps'
              (below k) (of_task (graph_at tasks k) k (walks k)) (λ x y p q. inl (omega arith)),
        )

    -- the releases of walks are legal
    pub releases_legal : IsLegal tasks (all_releases tasks walks (length tasks))
    releases_legal =
        let (each, steps) = all_allowed (length tasks) (omega arith) in
        legal_if_allowed tasks (all_releases tasks walks (length tasks)) each steps

nothing_works : (g : Digraph) → 0 ≡ work g []
unfolding work
nothing_works g = refl

-- what the releases of a walk need
module _ (version : ℕ) (tasks : List Task) (ok : IsTaskSet version tasks) (k : ℕ) (h : k < length tasks) where
  due_one : (p : Release → ℕ) (t x u : ℕ) → x + deadline (graph_at tasks k) u ≤ t
      → cond (is_due 0 t (job_of tasks (release_at (graph_at tasks k) k x u))) (wcet (graph_at tasks k) u) 0 ≡ wcet (graph_at tasks k) u
  due_one p t x u le =
      let d = deadline_here tasks k h 0 t (release_at (graph_at tasks k) k x u) refl in
      let z : leb 0 x ≡ true = le-leb 0 x (omega arith) in
      let y : leb (x + deadline_of tasks (release_at (graph_at tasks k) k x u)) t ≡ true = le-leb (x + deadline_of tasks (release_at (graph_at tasks k) k x u)) t (omega arith) in
      rw (z, y) refl

  from_due : AreConstrained tasks → (t x u : ℕ) (vs : List ℕ) → u < vertex_count (graph_at tasks k) → IsPath (graph_at tasks k) u vs
      → x + (span (graph_at tasks k) u vs + deadline (graph_at tasks k) (last_of u vs)) ≤ t
      → (x + deadline (graph_at tasks k) u ≤ t) × (sum_by (λ r. cond (is_due 0 t (job_of tasks r)) r.need 0) (releases_from (graph_at tasks k) k x u vs) ≡ work (graph_at tasks k) (u ∷ vs))
  unfolding releases_from span work
  from_due constrained t x u [] here path le =
      let g = graph_at tasks k in
      let f : Release → ℕ = λ r. cond (is_due 0 t (job_of tasks r)) r.need 0 in
      let first : x + deadline g u ≤ t = omega arith in
      (first, omega (arith, sum_by-cons f (release_at g k x u) [], due_one f t x u first))
  from_due constrained t x u (v ∷ vs) here path le =
      let g = graph_at tasks k in
      let f : Release → ℕ = λ r. cond (is_due 0 t (job_of tasks r)) r.need 0 in
      let to = edge_to version (task_at tasks k) (ok.each k no_task h) u v here path.0 in
      let due = edge_due version (task_at tasks k) (ok.each k no_task h) (constrained k no_task h) u v here path.0 in
      let (next, rest) = from_due constrained t (x + gap g u v) v vs to path.1 (omega arith) in
      let first : x + deadline g u ≤ t = omega arith in
      (first, omega (arith, sum_by-cons f (release_at g k x u) (releases_from g k (x + gap g u v) v vs), due_one f t x u first, rest))

  walk_due : AreConstrained tasks → (t : ℕ) (walk : List ℕ) → IsWalk (graph_at tasks k) walk → due_of (graph_at tasks k) walk ≤ t
      → sum_by (λ r. cond (is_due 0 t (job_of tasks r)) r.need 0) (releases_of (graph_at tasks k) k walk) ≡ work (graph_at tasks k) walk
  walk_due constrained t [] w le = nothing_works (graph_at tasks k)
  walk_due constrained t (u ∷ vs) w le = (from_due constrained t 0 u vs w.0 w.1 (omega arith)).1

  above_one : (p t x u : ℕ) → cond (is_above p 0 t (job_of tasks (release_at (graph_at tasks k) k x u))) (wcet (graph_at tasks k) u) 0 ≡ cond
      (ltb (task_at tasks k).priority p && ltb x t) (wcet (graph_at tasks k) u) 0
  above_one p t x u =
      let e = priority_here tasks k h p 0 t (release_at (graph_at tasks k) k x u) refl in
      let z : leb 0 x ≡ true = le-leb 0 x (omega arith) in
      rw (z, e) refl

  from_above : (p t x u : ℕ) (vs : List ℕ) → ltb (task_at tasks k).priority p ≡ true
      → sum_by (λ r. cond (is_above p 0 t (job_of tasks r)) r.need 0) (releases_from (graph_at tasks k) k x u vs) ≡ requested_from (graph_at tasks k) x u vs t
  unfolding releases_from requested_from
  from_above p t x u [] higher =
      let g = graph_at tasks k in
      let f : Release → ℕ = λ r. cond (is_above p 0 t (job_of tasks r)) r.need 0 in
      let one : cond (is_above p 0 t (job_of tasks (release_at g k x u))) (wcet g u) 0 ≡ cond (ltb x t) (wcet g u) 0 = rw higher at (above_one p t x u) in
      omega (arith, sum_by-cons f (release_at g k x u) [], one)
  from_above p t x u (v ∷ vs) higher =
      let g = graph_at tasks k in
      let f : Release → ℕ = λ r. cond (is_above p 0 t (job_of tasks r)) r.need 0 in
      let one : cond (is_above p 0 t (job_of tasks (release_at g k x u))) (wcet g u) 0 ≡ cond (ltb x t) (wcet g u) 0 = rw higher at (above_one p t x u) in
      omega (arith, sum_by-cons f (release_at g k x u) (releases_from g k (x + gap g u v) v vs), one, from_above p t (x + gap g u v) v vs higher)

  walk_above : (p t : ℕ) (walk : List ℕ) → ltb (task_at tasks k).priority p ≡ true
      → sum_by (λ r. cond (is_above p 0 t (job_of tasks r)) r.need 0) (releases_of (graph_at tasks k) k walk) ≡ request_of (graph_at tasks k) walk t
  walk_above p t [] higher = refl
  walk_above p t (u ∷ vs) higher = from_above p t 0 u vs higher

  from_below : (p t x u : ℕ) (vs : List ℕ) → ltb (task_at tasks k).priority p ≡ false → sum_by (λ r. cond (is_above p 0 t (job_of tasks r)) r.need 0) (releases_from (graph_at tasks k) k x u vs) ≡ 0
  unfolding releases_from
  from_below p t x u [] lower =
      let g = graph_at tasks k in
      let f : Release → ℕ = λ r. cond (is_above p 0 t (job_of tasks r)) r.need 0 in
      let one : ◌≡◌ {A = ℕ} (cond (is_above p 0 t (job_of tasks (release_at g k x u))) (wcet g u) 0) 0 = rw lower at (above_one p t x u) in
      omega (arith, sum_by-cons f (release_at g k x u) [], one)
  from_below p t x u (v ∷ vs) lower =
      let g = graph_at tasks k in
      let f : Release → ℕ = λ r. cond (is_above p 0 t (job_of tasks r)) r.need 0 in
      let one : ◌≡◌ {A = ℕ} (cond (is_above p 0 t (job_of tasks (release_at g k x u))) (wcet g u) 0) 0 = rw lower at (above_one p t x u) in
      omega (arith, sum_by-cons f (release_at g k x u) (releases_from g k (x + gap g u v) v vs), one, from_below p t (x + gap g u v) v vs lower)

  walk_below : (p t : ℕ) (walk : List ℕ) → ltb (task_at tasks k).priority p ≡ false → sum_by (λ r. cond (is_above p 0 t (job_of tasks r)) r.need 0) (releases_of (graph_at tasks k) k walk) ≡ 0
  walk_below p t [] lower = refl
  walk_below p t (u ∷ vs) lower = from_below p t 0 u vs lower

module _ (version : ℕ) (tasks : List Task) (ok : IsTaskSet version tasks) (walks : ℕ → List ℕ) (are : AreWalks tasks walks) where
  sums_due : AreConstrained tasks → (t : ℕ) → AreDueBy tasks walks t → (n : ℕ) → n ≤ length tasks
      → sum_by (λ r. cond (is_due 0 t (job_of tasks r)) r.need 0) (all_releases tasks walks n) ≡ efforts tasks walks n
  unfolding all_releases efforts
  sums_due constrained t due zero h = refl
  sums_due constrained t due (suc k) h =
      let f : Release → ℕ = λ r. cond (is_due 0 t (job_of tasks r)) r.need 0 in
      omega (
        arith,
        sum_by-append f (all_releases tasks walks k) (releases_of (graph_at tasks k) k (walks k)),
        sums_due constrained t due k (omega arith),
        walk_due
            version tasks ok k h constrained t (walks k) (are k h) (due k h),
      )

  -- by t the releases of walks that are due by t need all their work
  pub releases_due : AreConstrained tasks → (t : ℕ) → AreDueBy tasks walks t → needs (is_due 0 t) (jobs_of tasks (all_releases tasks walks (length tasks))) ≡ efforts tasks walks (length tasks)
  releases_due constrained t due =
      sum-map (λ job. cond (is_due 0 t job) job.need 0) (job_of tasks) (all_releases tasks walks (length tasks)) ∙ sums_due constrained t due (length tasks) (omega arith)

  sums_above : (p t n : ℕ) → n ≤ length tasks → sum_by (λ r. cond (is_above p 0 t (job_of tasks r)) r.need 0) (all_releases tasks walks n) ≡ requests tasks walks p n t
  unfolding all_releases requests
  sums_above p t zero h = refl
  sums_above p t (suc k) h =
      let f : Release → ℕ = λ r. cond (is_above p 0 t (job_of tasks r)) r.need 0 in
      let whole = sum_by-append f (all_releases tasks walks k) (releases_of (graph_at tasks k) k (walks k)) in
      let before = sums_above p t k (omega arith) in
      elim (cases_Bool (ltb (task_at tasks k).priority p)) [
        | inl higher ↦ rw higher (omega (arith, whole, before, walk_above version tasks ok k h p t (walks k) higher))
        | inr lower ↦ rw lower (omega (arith, whole, before, walk_below version tasks ok k h p t (walks k) lower))
      ]

  -- before t those of the higher tasks need what their walks ask for
  pub releases_above : (p t : ℕ) → needs (is_above p 0 t) (jobs_of tasks (all_releases tasks walks (length tasks))) ≡ requests tasks walks p (length tasks) t
  releases_above p t =
      sum-map (λ job. cond (is_above p 0 t job) job.need 0) (job_of tasks) (all_releases tasks walks (length tasks)) ∙ sums_above p t (length tasks) (omega arith)
