-- The graph of a task within the limits keeps the limits of a graph, and constrained deadlines.
use Rattle.std.proofs.Common.{◌≡◌, ℕ, ◌<◌, ◌≤◌, Bool, true, false, cond, not, eqb, List, [], length, All, map, get_or, refl, sym, ◌∙◌, arith}
use Rattle.std.proofs.lemmas.Bool.{eqb-true}
use Rattle.std.proofs.lemmas.List.Elements.{All-filter, All-map, filter_passes}
use Rattle.std.proofs.lemmas.List.Filters.{length-filter_both}
use Rattle.std.proofs.lemmas.List.FromFn.{length-map-range_with_len, get_or-map-range_with_len}
use Rattle.std.proofs.lemmas.List.Kept.{AllPairs-filter}
use Rattle.std.proofs.lemmas.List.{length-map}
use Rattle.std.proofs.lemmas.Option.{slice_get-get_or}
use Rattle.drt_model.specs.declared.tasks.Edge.{Edge}
use Rattle.drt_model.specs.declared.tasks.Task.{Task}
use Rattle.drt_model.specs.Limits.{IsTask, IsTaskSet, IsEdgeAmong, most_tasks, most_vertices}
use Rattle.drt_model.specs.Constrained.{IsConstrainedEdge, AreConstrained}
use Rattle.drt_model.specs.Digraph.{IsSoundGraph, IsConstrainedGraph, digraph_of, edges_from, out_edges, no_vertex, no_edge}
use Rattle.drt_graph.specs.Graphs.{AreGraphs}

-- The row of a vertex is the task's edges that leave it.
row_of : (t : Task) (v : ℕ) → v < length t.vertices → out_edges (digraph_of t) v ≡ edges_from t.edges v
row_of t v l = get_or-map-range_with_len (edges_from t.edges) 0 (length t.vertices) v v [] l (omega arith)

few_kept : (edges : List Edge) (v : ℕ) → length (edges_from edges v) ≤ length edges
few_kept edges v = omega (arith, length-filter_both (λ (e : Edge). eqb e.from v) (λ (e : Edge). not (eqb e.from v)) (λ _. refl) edges)

source : (edges : List Edge) (v k : ℕ) → k < length (edges_from edges v) → (get_or (edges_from edges v) k no_edge).from ≡ v
source edges v k l = eqb-true _ _ (filter_passes (λ (e : Edge). eqb e.from v) edges k no_edge l)

kept : (P : Edge → Type 0) (edges : List Edge) (v k : ℕ) → All P edges → k < length (edges_from edges v) → P (get_or (edges_from edges v) k no_edge)
kept P edges v k all l = All-filter (λ (e : Edge). eqb e.from v) P edges all k no_edge l

either : (b : Bool) (m n : ℕ) → m ≤ 96 → n ≤ 96 → cond b m n ≤ 96
either true m n h k = h
either false m n h k = k

-- The graph of a task keeps the limits of a graph.
pub sound_of : (version : ℕ) (t : Task) → IsTask version t → IsSoundGraph (digraph_of t)
sound_of version t is =
    let few : most_vertices version ≤ 96 = either (eqb version 1) 48 96 (omega arith) (omega arith) in
    record {
      some = is.has_vertex;
      few = omega (arith, few, is.few_vertices);
      rows = length-map-range_with_len (edges_from t.edges) 0 (length t.vertices);
      wcet = λ v l. (is.vertices v no_vertex l).wcet;
      deadline = λ v l. (is.vertices v no_vertex l).deadline;
      degree = λ v l. rw (row_of t v l) (omega (arith, few_kept t.edges v, is.at_most_256_edges));
      from = λ v k l m. rw (row_of t v l) (source t.edges v k (rw (row_of t v l) at m));
      sep = λ v k l m. rw (row_of t v l) ((kept (IsEdgeAmong (length t.vertices)) t.edges v k is.edges (rw (row_of t v l) at m)).sep);
      to = λ v k l m. rw (row_of t v l) ((kept (IsEdgeAmong (length t.vertices)) t.edges v k is.edges (rw (row_of t v l) at m)).to);
      single = λ v j k l m n. rw (row_of t v l) (single v j k m (rw (row_of t v l) at n));
    }
  where
    single : (v j k : ℕ) → j < k → k < length (edges_from t.edges v) → (get_or (edges_from t.edges v) j no_edge).to ≡ (get_or (edges_from t.edges v) k no_edge).to → ⊥
    single v j k m n =
        AllPairs-filter (λ (e f : Edge). e.from ≡ f.from → e.to ≡ f.to → ⊥) (λ (e : Edge). eqb e.from v) t.edges is.one_edge_each_way j k no_edge m n
        (source t.edges v j (omega arith) ∙ sym (source t.edges v k n))

-- The graph of a task with constrained deadlines has constrained deadlines.
pub constrained_of : (t : Task) → All (IsConstrainedEdge t) t.edges → IsConstrainedGraph (digraph_of t)
constrained_of t all v k l m =
    let n = rw (row_of t v l) at m in
    let f = source t.edges v k n in
    let s = slice_get-get_or t.vertices v no_vertex l in
    rw (row_of t v l) (rw (f, s) at (kept (IsConstrainedEdge t) t.edges v k all n))

few_tasks : (version n : ℕ) → n ≤ most_tasks version → n ≤ 32
few_tasks version n h = go (eqb version 1) h
  where
    go : (b : Bool) → n ≤ cond b 16 32 → n ≤ 32
    go true h = omega arith
    go false h = h

-- Each task of a set has a graph that keeps the limits.
pub all_sound : (version : ℕ) (tasks : List Task) → IsTaskSet version tasks → All (λ t. IsSoundGraph (digraph_of t)) tasks
all_sound version tasks is i d l = sound_of version (get_or tasks i d) (is.each i d l)

-- The graphs of a set with constrained deadlines are those of a set.
pub are_graphs : (version : ℕ) (tasks : List Task) → IsTaskSet version tasks → AreConstrained tasks → AreGraphs (map digraph_of tasks)
are_graphs version tasks is all = record {
  some = rw length-map is.has_task;
  few = rw length-map (few_tasks version (length tasks) is.few_tasks);
  sound = All-map IsSoundGraph digraph_of tasks (all_sound version tasks is);
  constrained = All-map IsConstrainedGraph digraph_of tasks (λ i d l. constrained_of (get_or tasks i d) (all i d l));
}
