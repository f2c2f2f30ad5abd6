-- The times that the soundness of fixed priorities looks for: one for each vertex of each task, up to the vertex's deadline. A claim
-- stands for each vertex, and deadlines are at most the greatest ones.
use Rattle.std.proofs.Common.{◌≡◌, ℕ, zero, suc, ◌+◌, ◌<◌, ◌≤◌, Bool, true, false, cond, List, [], ◌∷◌, ◌++◌, length, map, get_or, sym, ◌∙◌, subst, arith}
use Rattle.std.specs.Prelude.{Contains, filter, nat_lt, slice_index_or}
use Rattle.std.specs.List.{range_with_len}
use Rattle.std.proofs.lemmas.Bool.{lt-ltb}
use Rattle.std.proofs.lemmas.List.{get_or-map, length-map}
use Rattle.std.proofs.lemmas.List.Elements.{Contains-append_left, Contains-append_right}
use Rattle.std.proofs.lemmas.List.FromFn.{get_or-map-range_with_len, length-map-range_with_len}
use Rattle.drt_model.specs.declared.tasks.Task.{Task}
use Rattle.drt_model.specs.declared.tasks.Vertex.{Vertex}
use Rattle.drt_model.specs.Digraph.{no_vertex, vertex_count}
use Rattle.drt_model.specs.Walk.{deadline, wcet}
use Rattle.drt_busy.specs.Choice.{graph_at, no_task, requests, task_at}
use Rattle.drt_claims.specs.Proofs.{subjects_from}
use Rattle.drt_claims.specs.Searches.{lower_deadline}
use Rattle.drt_claims.specs.Trees.{greatest_deadline, latest_deadline}

-- A time up to the vertex's deadline has room for it and for what the walks of the tasks of higher priority ask for.
abbrev pub HasTime : List Task → (ℕ → List ℕ) → ℕ → ℕ → Type 0
HasTime tasks walks k v =
    (t : ℕ) × (1 ≤ t) × (t ≤ deadline (graph_at tasks k) v)
    × (wcet (graph_at tasks k) v + requests tasks walks (task_at tasks k).priority (length tasks) t ≤ t)

latest_bounds : (vertices : List Vertex) (v : ℕ) (d : Vertex) → v < length vertices → (slice_index_or vertices v d).deadline ≤ latest_deadline vertices
unfolding latest_deadline
latest_bounds [] v d l = absurd (omega arith)
latest_bounds (x ∷ vertices) zero d l = omega arith
latest_bounds (x ∷ vertices) (suc v) d l = omega (arith, latest_bounds vertices v d (omega arith))

greatest_bounds : (tasks : List Task) (k : ℕ) (d : Task) → k < length tasks → latest_deadline (slice_index_or tasks k d).vertices ≤ greatest_deadline tasks
unfolding greatest_deadline
greatest_bounds [] k d l = absurd (omega arith)
greatest_bounds (t ∷ tasks) zero d l = omega arith
greatest_bounds (t ∷ tasks) (suc k) d l = omega (arith, greatest_bounds tasks k d (omega arith))

-- Each deadline of a vertex is at most the greatest one.
pub deadline_near : (tasks : List Task) (k v : ℕ) → k < length tasks → v < vertex_count (graph_at tasks k) → deadline (graph_at tasks k) v ≤ greatest_deadline tasks
deadline_near tasks k v l m = omega (arith, latest_bounds (task_at tasks k).vertices v no_vertex m, greatest_bounds tasks k no_task l)

-- The tasks of lower priority than q.
abbrev lower : ℕ → List Task → List Task
lower q tasks = filter (λ t. nat_lt q t.priority) tasks

lower_bounds : (q : ℕ) (tasks : List Task) (k : ℕ) (d : Task) → k < length tasks → q < (slice_index_or tasks k d).priority
    → latest_deadline (slice_index_or tasks k d).vertices ≤ greatest_deadline (lower q tasks)
unfolding greatest_deadline
lower_bounds q [] k d l low = absurd (omega arith)
lower_bounds q (t ∷ tasks) zero d l low = go (nat_lt q t.priority) (lt-ltb q t.priority low)
  where
    go : (b : Bool) → b ≡ true → latest_deadline t.vertices ≤ greatest_deadline (cond b (t ∷ lower q tasks) (lower q tasks))
    go true e = omega arith
    go false e = absurd (cc)
lower_bounds q (t ∷ tasks) (suc k) d l low = go (nat_lt q t.priority) (lower_bounds q tasks k d (omega (arith, l)) low)
  where
    most : ℕ
    most = latest_deadline (slice_index_or tasks k d).vertices

    go : (b : Bool) → most ≤ greatest_deadline (lower q tasks) → most ≤ greatest_deadline (cond b (t ∷ lower q tasks) (lower q tasks))
    go true later = omega (arith, later)
    go false later = later

-- Each deadline of a task of lower priority than q is at most the greatest one of these tasks.
pub lower_near : (tasks : List Task) (k v q : ℕ) → k < length tasks → v < vertex_count (graph_at tasks k) → q < (task_at tasks k).priority
    → deadline (graph_at tasks k) v ≤ lower_deadline tasks q
lower_near tasks k v q l m low = omega (arith, latest_bounds (task_at tasks k).vertices v no_vertex m, lower_bounds q tasks k no_task l low)

-- The numbers of a task and a vertex of it.
abbrev pub subject : ℕ → ℕ → ℕ × ℕ
subject k v = (k, v)

-- The numbers of a task and each of its vertices.
abbrev subjects : ℕ → ℕ → List (ℕ × ℕ)
subjects k count = map (subject k) (range_with_len 0 count)

subject_here : (k count v : ℕ) → v < count → Contains (subjects k count) (subject k v)
subject_here k count v l =
    (v, (let e = length-map-range_with_len (subject k) 0 count in omega (arith, e, l)), get_or-map-range_with_len (subject k) 0 count v v (subject k v) l (omega arith))

-- Each vertex of each task is a subject.
subject_of : (first : ℕ) (tasks : List Task) (k v : ℕ) → k < length tasks → v < length (task_at tasks k).vertices
    → Contains (subjects_from first tasks) (subject (first + k) v)
unfolding subjects_from
subject_of first [] k v l m = absurd (omega (arith, l))
subject_of first (t ∷ tasks) zero v l m =
    let e : first ≡ first + 0 = omega arith in
    let here = Contains-append_left (subjects first (length t.vertices)) (subjects_from (first + 1) tasks) (subject first v) (subject_here first (length t.vertices) v m) in
    subst (λ n. Contains (subjects first (length t.vertices) ++ subjects_from (first + 1) tasks) (subject n v)) e here
subject_of first (t ∷ tasks) (suc k) v l m =
    let e : (first + 1) + k ≡ first + suc k = omega arith in
    let later = subject_of (first + 1) tasks k v (omega (arith, l)) m in
    let there = Contains-append_right (subjects first (length t.vertices)) (subjects_from (first + 1) tasks) (subject (first + 1 + k) v) later in
    subst (λ n. Contains (subjects first (length t.vertices) ++ subjects_from (first + 1) tasks) (subject n v)) e there

-- The place of a vertex's claim.
pub record HasClaim {A : Type 0} (names : A → ℕ × ℕ) (claims : List A) (d : A) (k v : ℕ) : Type 0 where
  pub place : ℕ
  pub here : place < length claims
  pub names_it : names (get_or claims place d) ≡ subject k v

-- Where claims name the vertices of the tasks, each vertex has one.
pub claim_of : {A : Type 0} (names : A → ℕ × ℕ) (tasks : List Task) (claims : List A) (d : A) → map names claims ≡ subjects_from 0 tasks
    → (k v : ℕ) → k < length tasks → v < length (task_at tasks k).vertices → HasClaim names claims d k v
claim_of names tasks claims d per k v l m =
    let e : 0 + k ≡ k = omega arith in
    let has : Contains (subjects_from 0 tasks) (subject k v) = subst (λ n. Contains (subjects_from 0 tasks) (subject n v)) e (subject_of 0 tasks k v l m) in
    let at : Contains (map names claims) (subject k v) = subst (λ xs. Contains xs (subject k v)) (sym per) has in
    let long = length-map claims names in
    let inside : at.0 < length claims = let b = at.1 in omega (arith, b, long) in
    record { place = at.0; here = inside; names_it = sym (get_or-map names claims at.0 d (subject k v) inside) ∙ at.2 }
