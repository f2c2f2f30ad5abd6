-- What tasks with other priorities are, place by place, and what of them stays as it was.
use Rattle.std.proofs.Common.{◌≡◌, ◌≢◌, ℕ, zero, suc, ◌<◌, ◌≤◌, List, [], ◌∷◌, length, map, take, set, get_or, All, Some, refl, sym, ap, ◌∙◌, subst, arith, inl, inr}
use Rattle.std.specs.Prelude.{AllPairs, Any, IsSomeAnd, slice_get}
use Rattle.std.proofs.lemmas.List.Elements.{All-cons, All-head, All-tail}
use Rattle.drt_model.specs.declared.tasks.Edge.{Edge}
use Rattle.drt_model.specs.declared.tasks.Vertex.{Vertex}
use Rattle.drt_model.specs.declared.tasks.Task.{Task}
use Rattle.drt_model.specs.declared.jobs.Release.{Release}
use Rattle.drt_model.specs.Constrained.{IsConstrainedEdge}
use Rattle.drt_model.specs.Digraph.{Digraph, digraph_of}
use Rattle.drt_model.specs.Legal.{AllNeighbours, IsLegalPart, Leads, part_of}
use Rattle.drt_model.specs.Limits.{IsPriority, IsTask, IsVersion, most_tasks, most_vertices}
use Rattle.drt_priorities.specs.Laws.{PrioritiesKeepConstraints, PrioritiesKeepGraphs, PrioritiesKeepLegality, PrioritiesKeepLimits, PrioritiesUndo}
use Rattle.drt_priorities.specs.Priorities.{prioritised}

pub length-prioritised : (tasks : List Task) (ps : List ℕ) → length (prioritised tasks ps) ≡ length tasks
length-prioritised [] ps = refl
length-prioritised (t ∷ tasks) [] = refl
length-prioritised (t ∷ tasks) (p ∷ ps) = ap suc (length-prioritised tasks ps)

pub prioritised-nil : (tasks : List Task) → prioritised tasks [] ≡ tasks
prioritised-nil [] = refl
prioritised-nil (t ∷ tasks) = refl

-- One priority more changes one task more.
pub prioritised_more : (tasks : List Task) (ps : List ℕ) (k : ℕ) (t d : Task) → k < length tasks → k < length ps
    → t ≡ get_or (prioritised tasks (take k ps)) k d
    → set (prioritised tasks (take k ps)) k (record t { priority = get_or ps k 0 }) ≡ prioritised tasks (take (suc k) ps)
prioritised_more [] ps k t d l m e = absurd (omega arith)
prioritised_more (u ∷ tasks) [] k t d l m e = absurd (omega arith)
prioritised_more (u ∷ tasks) (p ∷ ps) zero t d l m e = ap (λ (x : Task). record x { priority = p } ∷ tasks) e ∙ ap (λ (xs : List Task). record u { priority = p } ∷ xs) (sym (prioritised-nil tasks))
prioritised_more (u ∷ tasks) (p ∷ ps) (suc k) t d l m e = ap (λ (xs : List Task). record u { priority = p } ∷ xs) (prioritised_more tasks ps k t d (omega arith) (omega arith) e)

-- The task at a place has the priority at that place.
pub get_or-prioritised : (tasks : List Task) (ps : List ℕ) (k : ℕ) (d : Task) (e : ℕ) → length ps ≡ length tasks → k < length tasks
    → get_or (prioritised tasks ps) k d ≡ record (get_or tasks k d) { priority = get_or ps k e }
get_or-prioritised [] ps k d e n l = absurd (omega arith)
get_or-prioritised (t ∷ tasks) [] k d e n l = absurd (omega arith)
get_or-prioritised (t ∷ tasks) (p ∷ ps) zero d e n l = refl
get_or-prioritised (t ∷ tasks) (p ∷ ps) (suc k) d e n l = get_or-prioritised tasks ps k d e (omega arith) (omega arith)

-- The graph of the task at a place stays as it is.
pub graph_stays : (tasks : List Task) (ps : List ℕ) (k : ℕ) (d : Task) → digraph_of (get_or (prioritised tasks ps) k d) ≡ digraph_of (get_or tasks k d)
graph_stays [] ps k d = refl
graph_stays (t ∷ tasks) [] k d = refl
graph_stays (t ∷ tasks) (p ∷ ps) zero d = refl
graph_stays (t ∷ tasks) (p ∷ ps) (suc k) d = graph_stays tasks ps k d

pub graphs_stay : (tasks : List Task) (ps : List ℕ) → map digraph_of (prioritised tasks ps) ≡ map digraph_of tasks
graphs_stay [] ps = refl
graphs_stay (t ∷ tasks) [] = refl
graphs_stay (t ∷ tasks) (p ∷ ps) = ap (λ (gs : List Digraph). digraph_of t ∷ gs) (graphs_stay tasks ps)

pub keep_graphs : PrioritiesKeepGraphs
keep_graphs tasks ps = (length-prioritised tasks ps, graphs_stay tasks ps)

-- Of two lists of priorities for all tasks the last one counts.
pub prioritised_twice : (tasks : List Task) (first last : List ℕ) → length last ≡ length tasks → prioritised (prioritised tasks first) last ≡ prioritised tasks last
prioritised_twice [] first last n = refl
prioritised_twice (t ∷ tasks) [] last n = refl
prioritised_twice (t ∷ tasks) (p ∷ first) [] n = absurd (omega arith)
prioritised_twice (t ∷ tasks) (p ∷ first) (q ∷ last) n = ap (λ (xs : List Task). record t { priority = q } ∷ xs) (prioritised_twice tasks first last (omega arith))

pub prioritised_same : (tasks : List Task) → prioritised tasks (map (λ t. t.priority) tasks) ≡ tasks
prioritised_same [] = refl
prioritised_same (t ∷ tasks) = ap (λ (xs : List Task). t ∷ xs) (prioritised_same tasks)

pub undo : PrioritiesUndo
undo tasks = (prioritised_twice tasks, prioritised_same tasks)

-- What holds of each task whatever its priority holds of the tasks with other priorities, and the other way round.
all_stays : (P : Task → Type 0) → ((t : Task) (p : ℕ) → P t → P (record t { priority = p })) → (tasks : List Task) (ps : List ℕ) → All P tasks → All P (prioritised tasks ps)
all_stays P free [] ps all = all
all_stays P free (t ∷ tasks) [] all = all
all_stays P free (t ∷ tasks) (p ∷ ps) all =
    All-cons P (record t { priority = p }) (prioritised tasks ps) (free t p (All-head P t tasks all)) (all_stays P free tasks ps (All-tail P t tasks all))

all_returns : (P : Task → Type 0) → ((t : Task) (p : ℕ) → P (record t { priority = p }) → P t) → (tasks : List Task) (ps : List ℕ) → All P (prioritised tasks ps) → All P tasks
all_returns P free [] ps all = all
all_returns P free (t ∷ tasks) [] all = all
all_returns P free (t ∷ tasks) (p ∷ ps) all =
    let u : Task = record t { priority = p } in
    All-cons P t tasks (free t p (All-head P u (prioritised tasks ps) all)) (all_returns P free tasks ps (All-tail P u (prioritised tasks ps) all))

pub keep_constraints : PrioritiesKeepConstraints
keep_constraints tasks ps =
    (all_returns (λ t. All (IsConstrainedEdge t) t.edges) (λ t p h. h) tasks ps, all_stays (λ t. All (IsConstrainedEdge t) t.edges) (λ t p h. h) tasks ps)

-- The task that is at a place, and the one that was.
task_was : (tasks : List Task) (ps : List ℕ) (k : ℕ) (t : Task) → slice_get (prioritised tasks ps) k ≡ Some t
    → (u : Task) × (slice_get tasks k ≡ Some u) × (u.vertices ≡ t.vertices) × (u.edges ≡ t.edges)
task_was [] ps k t e = (t, e, refl, refl)
task_was (u ∷ tasks) [] k t e = (t, e, refl, refl)
task_was (u ∷ tasks) (p ∷ ps) zero t e = (u, refl, ap (λ (x : Task). x.vertices) (some_same e), ap (λ (x : Task). x.edges) (some_same e))
  where
    some_same : {x y : Task} → Some x ≡ Some y → x ≡ y
    some_same h = cc
task_was (u ∷ tasks) (p ∷ ps) (suc k) t e = task_was tasks ps k t e

task_is : (tasks : List Task) (ps : List ℕ) (k : ℕ) (u : Task) → slice_get tasks k ≡ Some u
    → (t : Task) × (slice_get (prioritised tasks ps) k ≡ Some t) × (u.vertices ≡ t.vertices) × (u.edges ≡ t.edges)
task_is [] ps k u e = (u, e, refl, refl)
task_is (v ∷ tasks) [] k u e = (u, e, refl, refl)
task_is (v ∷ tasks) (p ∷ ps) zero u e = (record v { priority = p }, refl, ap (λ (x : Task). x.vertices) (some_same (sym e)), ap (λ (x : Task). x.edges) (some_same (sym e)))
  where
    some_same : {x y : Task} → Some x ≡ Some y → x ≡ y
    some_same h = cc
task_is (v ∷ tasks) (p ∷ ps) (suc k) u e = task_is tasks ps k u e

same_part : (t u : Task) (rs : List Release) → u.vertices ≡ t.vertices → u.edges ≡ t.edges → IsLegalPart t rs → IsLegalPart u rs
same_part t u rs e f part = record {
  each = subst (λ (vs : List Vertex). All (λ r. IsSomeAnd (slice_get vs r.vertex) (λ v. (1 ≤ r.need) × (r.need ≤ v.wcet))) rs) (sym e) part.each;
  steps = subst (λ (es : List Edge). AllNeighbours (λ r s. Any (λ x. Leads x r s) es) rs) (sym f) part.steps;
}

pub keep_legality : PrioritiesKeepLegality
keep_legality tasks ps rs = (
  λ is. record {
    of_tasks = subst (λ (n : ℕ). All (λ r. r.task < n) rs) (length-prioritised tasks ps) is.of_tasks;
    in_order = is.in_order;
    parts = λ k u e. (let was = task_is tasks ps k u e in same_part was.0 u (part_of k rs) was.2 was.3 (is.parts k was.0 was.1));
  },
  λ is. record {
    of_tasks = subst (λ (n : ℕ). All (λ r. r.task < n) rs) (sym (length-prioritised tasks ps)) is.of_tasks;
    in_order = is.in_order;
    parts = λ k t e. (let was = task_was tasks ps k t e in same_part was.0 t (part_of k rs) (sym was.2) (sym was.3) (is.parts k was.0 was.1));
  },
)

-- What holds of each two tasks whatever their priorities.
pairs_stay : (R : Task → Task → Type 0) → ((s t : Task) (p q : ℕ) → R s t → R (record s { priority = p }) (record t { priority = q })) → (tasks : List Task) (ps : List ℕ)
    → length ps ≡ length tasks → AllPairs R tasks → AllPairs R (prioritised tasks ps)
pairs_stay R free tasks ps n all i j d l m =
    let n' = length-prioritised tasks ps in
    let at_i = get_or-prioritised tasks ps i d 0 n (omega arith) in
    let at_j = get_or-prioritised tasks ps j d 0 n (omega arith) in
    rw (at_i, at_j) (free (get_or tasks i d) (get_or tasks j d) (get_or ps i 0) (get_or ps j 0) (all i j d l (omega arith)))

priorities_apart : (tasks : List Task) (ps : List ℕ) → length ps ≡ length tasks → AllPairs (λ p q. p ≢ q) ps → AllPairs (λ s t. s.priority ≢ t.priority) (prioritised tasks ps)
priorities_apart tasks ps n all i j d l m =
    let n' = length-prioritised tasks ps in
    let at_i = get_or-prioritised tasks ps i d 0 n (omega arith) in
    let at_j = get_or-prioritised tasks ps j d 0 n (omega arith) in
    rw (at_i, at_j) (all i j 0 l (omega arith))

-- A task of either version, with a priority in range, is one of version 2.
task_of_two : (version : ℕ) (t : Task) (p : ℕ) → IsVersion version → IsPriority p → IsTask version t → IsTask 2 (record t { priority = p })
task_of_two version t p known in_range is = record {
  name = is.name;
  priority = in_range;
  has_vertex = is.has_vertex;
  few_vertices = elim known [
    | inl e ↦ (let few : length t.vertices ≤ 48 = subst (λ (n : ℕ). length t.vertices ≤ most_vertices n) e is.few_vertices in omega arith)
    | inr e ↦ (let few : length t.vertices ≤ 96 = subst (λ (n : ℕ). length t.vertices ≤ most_vertices n) e is.few_vertices in few)
  ];
  vertices = is.vertices;
  distinct_names = is.distinct_names;
  at_most_256_edges = is.at_most_256_edges;
  edges = is.edges;
  one_edge_each_way = is.one_edge_each_way;
}

tasks_of_two : (version : ℕ) (tasks : List Task) (ps : List ℕ) → IsVersion version → length ps ≡ length tasks → All IsPriority ps → All (IsTask version) tasks
    → All (IsTask 2) (prioritised tasks ps)
tasks_of_two version tasks ps known n in_range all k d l =
    let n' = length-prioritised tasks ps in
    let at = get_or-prioritised tasks ps k d 0 n (omega arith) in
    rw at (task_of_two version (get_or tasks k d) (get_or ps k 0) known (in_range k 0 (omega arith)) (all k d (omega arith)))

pub keep_limits : PrioritiesKeepLimits
keep_limits version tasks ps is are = record {
  known = inr refl;
  has_task = omega (arith, is.has_task, length-prioritised tasks ps);
  few_tasks = few;
  each = tasks_of_two version tasks ps is.known are.as_many are.each is.each;
  distinct_names = pairs_stay (λ s t. s.name ≢ t.name) (λ s t p q h. h) tasks ps are.as_many is.distinct_names;
  distinct_priorities = priorities_apart tasks ps are.as_many are.distinct;
  in_order = λ e. absurd (omega (arith, e));
}
  where
    few : length (prioritised tasks ps) ≤ 32
    few = elim is.known [
      | inl e ↦ (let at : length tasks ≤ 16 = subst (λ (n : ℕ). length tasks ≤ most_tasks n) e is.few_tasks in omega (arith, length-prioritised tasks ps))
      | inr e ↦ (let at : length tasks ≤ 32 = subst (λ (n : ℕ). length tasks ≤ most_tasks n) e is.few_tasks in omega (arith, length-prioritised tasks ps))
    ]
