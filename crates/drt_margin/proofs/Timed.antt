-- What a changed execution time leaves as it is, and that a second change undoes the first.
use Rattle.std.proofs.Common.{◌≡◌, ℕ, zero, suc, ◌+◌, ◌-◌, ◌<◌, List, [], ◌∷◌, length, get_or, set, refl, ap, subst, ◌∙◌, arith}
use Rattle.std.specs.Prelude.{◌≢◌}
use Rattle.std.proofs.lemmas.List.{length-set, set-get_or, get_or-set_same, get_or-set_other}
use Rattle.drt_model.specs.Digraph.{digraph_of, no_vertex, vertex_count}
use Rattle.drt_model.specs.Walk.{deadline, wcet}
use Rattle.drt_model.specs.declared.tasks.Task.{Task}
use Rattle.drt_model.specs.declared.tasks.Vertex.{Vertex}
use Rattle.drt_busy.specs.Choice.{graph_at, no_task, task_at}
use Rattle.drt_model.specs.Contents.{Contents}
use Rattle.drt_margin.specs.Margin.{IsVertexOf, deadline_at, plus, plus_set, timed, timed_set, timed_task, timed_tasks, wcet_at}

-- A second item at a place stands alone.
pub set_twice : {A : Type 0} (xs : List A) (i : ℕ) (x y : A) → set (set xs i x) i y ≡ set xs i y
set_twice [] i x y = refl
set_twice (z ∷ xs) zero x y = refl
set_twice (z ∷ xs) (suc i) x y = ap (λ ys. z ∷ ys) (set_twice xs i x y)

-- There are as many tasks.
pub timed_length : (tasks : List Task) (k v e : ℕ) → length (timed_tasks tasks k v e) ≡ length tasks
unfolding timed_tasks
timed_length tasks k v e = length-set tasks k (timed_task (task_at tasks k) v e)

-- The task itself.
pub timed_there : (tasks : List Task) (k v e : ℕ) → k < length tasks → task_at (timed_tasks tasks k v e) k ≡ timed_task (task_at tasks k) v e
unfolding timed_tasks
timed_there tasks k v e l = get_or-set_same tasks k (timed_task (task_at tasks k) v e) no_task l

-- And another one.
pub timed_elsewhere : (tasks : List Task) (k v e i : ℕ) → i ≢ k → task_at (timed_tasks tasks k v e) i ≡ task_at tasks i
unfolding timed_tasks
timed_elsewhere tasks k v e i other = get_or-set_other tasks k i (timed_task (task_at tasks k) v e) no_task other

-- A task has as many vertices.
pub timed_vertices : (t : Task) (v e : ℕ) → length (timed_task t v e).vertices ≡ length t.vertices
timed_vertices t v e = length-set t.vertices v (timed (get_or t.vertices v no_vertex) e)

-- The execution time of the vertex.
pub timed_wcet : (tasks : List Task) (k v e : ℕ) → k < length tasks → v < vertex_count (graph_at tasks k) → wcet_at (timed_tasks tasks k v e) k v ≡ e
timed_wcet tasks k v e l m =
    ap (λ (t : Task). wcet (digraph_of t) v) (timed_there tasks k v e l)
    ∙ ap (λ (x : Vertex). x.wcet) (get_or-set_same (task_at tasks k).vertices v (timed (get_or (task_at tasks k).vertices v no_vertex) e) no_vertex m)

-- Its deadline.
pub timed_deadline : (tasks : List Task) (k v e : ℕ) → k < length tasks → v < vertex_count (graph_at tasks k) → deadline_at (timed_tasks tasks k v e) k v ≡ deadline_at tasks k v
timed_deadline tasks k v e l m =
    ap (λ (t : Task). deadline (digraph_of t) v) (timed_there tasks k v e l)
    ∙ ap (λ (x : Vertex). x.deadline) (get_or-set_same (task_at tasks k).vertices v (timed (get_or (task_at tasks k).vertices v no_vertex) e) no_vertex m)

-- It is still a vertex of the task.
pub timed_within : (tasks : List Task) (k v e : ℕ) → k < length tasks → v < vertex_count (graph_at tasks k) → v < vertex_count (graph_at (timed_tasks tasks k v e) k)
timed_within tasks k v e l m =
    omega (arith, ap (λ (t : Task). length t.vertices) (timed_there tasks k v e l), timed_vertices (task_at tasks k) v e)

-- Its own execution time changes nothing.
pub timed_same : (tasks : List Task) (k v : ℕ) → timed_tasks tasks k v (wcet_at tasks k v) ≡ tasks
unfolding timed_tasks
timed_same tasks k v =
    ap (λ (xs : List Vertex). set tasks k
    (record { name = (task_at tasks k).name; priority = (task_at tasks k).priority; vertices = xs; edges = (task_at tasks k).edges })) (set-get_or (task_at tasks k).vertices v no_vertex)
    ∙ set-get_or tasks k no_task

-- Of two execution times of a vertex the second one stands alone.
pub timed_twice : (tasks : List Task) (k v e f : ℕ) → k < length tasks → v < vertex_count (graph_at tasks k) → timed_tasks (timed_tasks tasks k v e) k v f ≡ timed_tasks tasks k v f
unfolding timed_tasks
timed_twice tasks k v e f l m =
    set_twice tasks k (timed_task (task_at tasks k) v e) (timed_task (task_at (timed_tasks tasks k v e) k) v f)
    ∙ ap (λ (t : Task). set tasks k t) (ap (λ (t : Task). timed_task t v f) (timed_there tasks k v e l) ∙ task_twice (task_at tasks k) m)
  where
    task_twice : (t : Task) → v < length t.vertices → timed_task (timed_task t v e) v f ≡ timed_task t v f
    task_twice t m =
        let x = timed (get_or t.vertices v no_vertex) e in
        let read : get_or (set t.vertices v x) v no_vertex ≡ x = get_or-set_same t.vertices v x no_vertex m in
        let all : set (set t.vertices v x) v (timed (get_or (set t.vertices v x) v no_vertex) f) ≡ set t.vertices v (timed x f) =
        ap (λ (y : Vertex). set (set t.vertices v x) v (timed y f)) read ∙ set_twice t.vertices v x (timed x f) in
        ap (λ (xs : List Vertex). record { name = t.name; priority = t.priority; vertices = xs; edges = t.edges }) all

-- Ticks that are added to an execution time of the vertex are added to its own.
pub plus_timed : (tasks : List Task) (k v e : ℕ) → k < length tasks → v < vertex_count (graph_at tasks k) → timed_tasks (timed_tasks tasks k v e) k v (wcet_at tasks k v) ≡ tasks
plus_timed tasks k v e l m = timed_twice tasks k v e (wcet_at tasks k v) l m ∙ timed_same tasks k v

-- No ticks that are added change nothing.
pub plus_none : (tasks : List Task) (k v : ℕ) → plus tasks k v 0 ≡ tasks
plus_none tasks k v =
    let e : wcet_at tasks k v + 0 ≡ wcet_at tasks k v = omega arith in
    ap (timed_tasks tasks k v) e ∙ timed_same tasks k v

-- The vertex of the tasks with another execution time is one of the tasks.
pub vertex_before : (tasks : List Task) (k v e : ℕ) → IsVertexOf (timed_tasks tasks k v e) k v → IsVertexOf tasks k v
vertex_before tasks k v e (l, m) =
    let here : k < length tasks = omega (arith, timed_length tasks k v e) in
    (here, omega (arith, ap (λ (t : Task). length t.vertices) (timed_there tasks k v e here), timed_vertices (task_at tasks k) v e))

-- So many ticks less than S + c is S.
pub less_again : (set before : Contents) (k v c : ℕ) → IsVertexOf set.tasks k v → set ≡ plus_set before k v c → timed_set set k v (wcet_at set.tasks k v - c) ≡ before
less_again set before k v c is e =
    let e_before = wcet_at before.tasks k v + c in
    let there = vertex_before before.tasks k v e_before (subst (λ (s : Contents). IsVertexOf s.tasks k v) e is) in
    let time : wcet_at set.tasks k v ≡ e_before = ap (λ (s : Contents). wcet_at s.tasks k v) e ∙ timed_wcet before.tasks k v e_before there.0 there.1 in
    let less : wcet_at set.tasks k v - c ≡ wcet_at before.tasks k v = omega arith in
    let back : timed_tasks (plus before.tasks k v c) k v (wcet_at before.tasks k v) ≡ before.tasks = plus_timed before.tasks k v e_before there.0 there.1 in
    ap (λ (n : ℕ). timed_set set k v n) less
    ∙ ap (λ (s : Contents). timed_set s k v (wcet_at before.tasks k v)) e
    ∙ ap (λ (ts : List Task). record { version = before.version; tasks = ts }) back
