-- A changed execution time in range keeps the limits and constrained deadlines.
use Rattle.std.proofs.Common.{◌≡◌, ℕ, ◌+◌, ◌<◌, ◌≤◌, List, length, get_or, set, All, Some, IfSome, slice_get, ◌⊎◌, inl, inr, refl, sym, ap, subst, ◌∙◌, arith}
use Rattle.std.specs.Prelude.{◌≢◌}
use Rattle.std.specs.List.{AllPairs}
use Rattle.std.proofs.lemmas.Bool.{cases_eq, cases_lt}
use Rattle.std.proofs.lemmas.List.{length-set, get_or-set_same, get_or-set_other, get_or_default}
use Rattle.std.proofs.lemmas.List.Elements.{All-set}
use Rattle.std.proofs.lemmas.Option.{get_or_from_slice_get, slice_get_within, slice_get-get_or, slice_get_past}
use Rattle.drt_model.specs.Constrained.{AreConstrained, IsConstrainedEdge}
use Rattle.drt_model.specs.Digraph.{no_vertex, vertex_count}
use Rattle.drt_model.specs.Limits.{IsEdgeAmong, IsTask, IsTaskSet, IsTime, IsVertex}
use Rattle.drt_model.specs.declared.tasks.Edge.{Edge}
use Rattle.drt_model.specs.declared.tasks.Task.{Task}
use Rattle.drt_model.specs.declared.tasks.Vertex.{Vertex}
use Rattle.drt_busy.specs.Choice.{graph_at, no_task, task_at}
use Rattle.drt_margin.specs.Margin.{plus, timed, timed_task, timed_tasks, wcet_at}
use Rattle.drt_margin.proofs.Timed.{timed_length, timed_vertices, timed_wcet, timed_within}
use Rattle.drt_model.specs.Numbers.{most_time}

-- What an item and the one in its place have alike, the lists have alike at each place.
field_kept : {X Y : Type 0} (f : X → Y) (xs : List X) (k : ℕ) (y d : X) → k < length xs → f y ≡ f (get_or xs k d) → (i : ℕ) (c : X) → i < length xs → f (get_or (set xs k y) i c) ≡ f (get_or xs i c)
field_kept f xs k y d l same i c m = go (cases_eq i k)
  where
    go : (i ≡ k) ⊎ (i ≡ k → ⊥) → f (get_or (set xs k y) i c) ≡ f (get_or xs i c)
    go (inl e) = rw e (ap f (get_or-set_same xs k y c l) ∙ same ∙ ap f (get_or_default xs k d c l))
    go (inr other) = ap f (get_or-set_other xs k i y c other)

-- So what is apart stays apart.
pairs_kept : {X Y : Type 0} (f : X → Y) (xs : List X) (k : ℕ) (y d : X) → k < length xs → f y ≡ f (get_or xs k d) → AllPairs (λ a b. f a ≢ f b) xs → AllPairs (λ a b. f a ≢ f b) (set xs k y)
pairs_kept f xs k y d l same all i j c before m e =
    let n : j < length xs = omega (arith, length-set xs k y) in
    all i j c before n (sym (field_kept f xs k y d l same i c (omega arith)) ∙ e ∙ field_kept f xs k y d l same j c n)

-- The task keeps its limits.
pub task_kept : (version : ℕ) (t : Task) (v e : ℕ) → IsTask version t → v < length t.vertices → IsTime e → IsTask version (timed_task t v e)
task_kept version t v e is l time =
    let same = timed_vertices t v e in
    record {
      name = is.name;
      priority = is.priority;
      has_vertex = rw same is.has_vertex;
      few_vertices = rw same is.few_vertices;
      vertices = All-set IsVertex t.vertices v (timed (get_or t.vertices v no_vertex) e) (vertex_kept (is.vertices v no_vertex l)) is.vertices;
      distinct_names = pairs_kept (λ (x : Vertex). x.name) t.vertices v (timed (get_or t.vertices v no_vertex) e) no_vertex l refl is.distinct_names;
      at_most_256_edges = is.at_most_256_edges;
      edges = subst (λ n. All (IsEdgeAmong n) t.edges) (sym same) is.edges;
      one_edge_each_way = is.one_edge_each_way;
    }
  where
    vertex_kept : {x : Vertex} → IsVertex x → IsVertex (timed x e)
    vertex_kept x = record { name = x.name; wcet = time; deadline = x.deadline }

-- The set keeps its limits.
pub timed_kept : (version : ℕ) (tasks : List Task) (k v e : ℕ) → IsTaskSet version tasks → k < length tasks → v < vertex_count (graph_at tasks k) → IsTime e
    → IsTaskSet version (timed_tasks tasks k v e)
unfolding timed_tasks
timed_kept version tasks k v e is l m time =
    let t = timed_task (task_at tasks k) v e in
    let same = length-set tasks k t in
    record {
      known = is.known;
      has_task = rw same is.has_task;
      few_tasks = rw same is.few_tasks;
      each = All-set (IsTask version) tasks k t (task_kept version (task_at tasks k) v e (is.each k no_task l) m time) is.each;
      distinct_names = pairs_kept (λ (s : Task). s.name) tasks k t no_task l refl is.distinct_names;
      distinct_priorities = pairs_kept (λ (s : Task). s.priority) tasks k t no_task l refl is.distinct_priorities;
      in_order = λ first i s at. ordered t refl first i s at;
    }
  where
    ordered : (t : Task) → t.priority ≡ (task_at tasks k).priority → version ≡ 1 → (i : ℕ) (s : Task) → slice_get (set tasks k t) i ≡ Some s → s.priority ≡ i + 1
    ordered t same first i s at =
        let n : i < length tasks = omega (arith, slice_get_within (set tasks k t) i s at, length-set tasks k t) in
        let here = ap (λ (r : Task). r.priority) (get_or_from_slice_get (set tasks k t) i s no_task at) in
        sym here ∙ field_kept (λ (r : Task). r.priority) tasks k t no_task l same i no_task n ∙ is.in_order first i (get_or tasks i no_task) (slice_get-get_or tasks i no_task n)

-- The execution times of a set are at most 1,000,000.
pub wcet_most : (version : ℕ) (tasks : List Task) (k v : ℕ) → IsTaskSet version tasks → k < length tasks → v < vertex_count (graph_at tasks k) → IsTime (wcet_at tasks k v)
wcet_most version tasks k v is l m = ((is.each k no_task l).vertices v no_vertex m).wcet

-- So the limits bound what may be added.
pub plus_most : (version : ℕ) (tasks : List Task) (k v c : ℕ) → k < length tasks → v < vertex_count (graph_at tasks k) → IsTaskSet version (plus tasks k v c) → wcet_at tasks k v + c ≤ most_time
plus_most version tasks k v c l m is =
    let e = wcet_at tasks k v + c in
    let within = wcet_most version (plus tasks k v c) k v is (omega (arith, timed_length tasks k v e)) (timed_within tasks k v e l m) in
    omega (arith, within.1, timed_wcet tasks k v e l m)

-- And what is at most that may be added.
pub plus_kept : (version : ℕ) (tasks : List Task) (k v c : ℕ) → IsTaskSet version tasks → k < length tasks → v < vertex_count (graph_at tasks k)
    → wcet_at tasks k v + c ≤ most_time → IsTaskSet version (plus tasks k v c)
plus_kept version tasks k v c is l m few =
    let some = (wcet_most version tasks k v is l m).0 in
    timed_kept version tasks k v (wcet_at tasks k v + c) is l m (omega arith, few)

-- An edge from a vertex with the same deadline.
edge_kept : (t : Task) (v e : ℕ) → v < length t.vertices → (edge : Edge) → IsConstrainedEdge t edge → IsConstrainedEdge (timed_task t v e) edge
edge_kept t v e l edge is = go (cases_lt edge.from (length t.vertices))
  where
    x : Vertex
    x = timed (get_or t.vertices v no_vertex) e

    go : (edge.from < length t.vertices) ⊎ (length t.vertices ≤ edge.from) → IfSome (slice_get (set t.vertices v (timed (get_or t.vertices v no_vertex) e)) edge.from) (λ y. y.deadline ≤ edge.sep)
    go (inl m) =
        let y = timed (get_or t.vertices v no_vertex) e in
        let old : (get_or t.vertices edge.from no_vertex).deadline ≤ edge.sep = rw (slice_get-get_or t.vertices edge.from no_vertex m) at is in
        let same = field_kept (λ (z : Vertex). z.deadline) t.vertices v y no_vertex l refl edge.from no_vertex m in
        rw (slice_get-get_or (set t.vertices v y) edge.from no_vertex (omega (arith, length-set t.vertices v y))) (omega arith)
    go (inr m) =
        let y = timed (get_or t.vertices v no_vertex) e in
        rw (slice_get_past (set t.vertices v y) edge.from (omega (arith, length-set t.vertices v y))) tt

-- The deadlines stay constrained.
pub timed_constrained : (tasks : List Task) (k v e : ℕ) → AreConstrained tasks → k < length tasks → v < vertex_count (graph_at tasks k) → AreConstrained (timed_tasks tasks k v e)
unfolding timed_tasks
timed_constrained tasks k v e are l m =
    let t = task_at tasks k in
    All-set (λ s. All (IsConstrainedEdge s) s.edges) tasks k (timed_task t v e) (λ i d n. edge_kept t v e m (get_or t.edges i d) (are k no_task l i d n)) are
