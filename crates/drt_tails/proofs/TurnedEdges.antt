-- The edges of a graph, turned round, and the graph of the task that has them.
use Rattle.std.proofs.Common.{◌≡◌, ℕ, zero, suc, ◌+◌, ◌<◌, eqb, List, [], ◌∷◌, ◌++◌, Some, length, map, get_or, refl, sym, ap, ◌∙◌, subst, inl, inr, ⊎_elim, arith}
use Rattle.std.specs.Prelude.{All, Contains}
use Rattle.std.proofs.lemmas.Bool.{eq-eqb}
use Rattle.std.proofs.lemmas.List.{get_or-map, get_or_default, length-map}
use Rattle.std.proofs.lemmas.List.Elements.{All-filter, All-push, Contains-append_left, Contains-push}
use Rattle.std.proofs.lemmas.List.FromFn.{get_or-map-range_with_len}
use mathlib.Core.Logic.{dite}
use native.Mathlib.Decide.{dec_lt}
use Rattle.drt_model.specs.declared.tasks.Vertex.{Vertex}
use Rattle.drt_model.specs.declared.tasks.Edge.{Edge}
use Rattle.drt_model.specs.declared.tasks.Task.{Task}
use Rattle.drt_model.specs.Digraph.{Digraph, IsSoundGraph, digraph_of, edges_from, edge_of, no_edge, no_vertex, out_degree, out_edges, vertex_count}
use Rattle.drt_model.specs.Walk.{deadline, sep}
use Rattle.drt_model.proofs.Neighbours.{kept}
use Rattle.drt_graph.proofs.Edges.{edge_of_sep, sep_of_edge, source_of, target_of}
use Rattle.drt_tails.specs.Turned.{AreTurned, AreTurnedTo, IsTurned, IsTurnedEdge, IsTurnedTask, turned_edge, urgent}

-- One more edge.
pub edges_more : (g : Digraph) (u k : ℕ) (edges new : List Edge) → u < vertex_count g → k < out_degree g u → AreTurnedTo g u k edges
    → new ≡ edges ++ turned_edge g u k ∷ [] → AreTurnedTo g u (k + 1) new
edges_more g u k edges new lu lk are is = subst (AreTurnedTo g u (k + 1)) (sym is) record {
  each = All-push (IsTurnedEdge g) edges (turned_edge g u k) are.each (record { number = k; vertex = lu; edge = lk; is = refl });
  all = λ v j lv lj b. ⊎_elim
      (λ (l : v < u). Contains-append_left edges (turned_edge g u k ∷ []) (turned_edge g v j) (are.all v j lv lj (inl l)))
      (λ (l : (v ≡ u) × (j < k + 1)). dite (dec_lt j k)
      (λ early. Contains-append_left edges (turned_edge g u k ∷ []) (turned_edge g v j) (are.all v j lv lj (inr (l.0, early))))
      (λ late.
      let l1 = l.1 in let at : j ≡ k = omega (arith, l1) in
      let same : turned_edge g u k ≡ turned_edge g v j = ap (λ (q : ℕ × ℕ). turned_edge g q.0 q.1) (λ t. (sym l.0 t, sym at t)) in
      subst (Contains (edges ++ turned_edge g u k ∷ [])) same (Contains-push edges (turned_edge g u k)))) b;
}

-- The next vertex.
pub edges_next : (g : Digraph) (u k : ℕ) (edges : List Edge) → k ≡ out_degree g u → AreTurnedTo g u k edges → AreTurnedTo g (u + 1) 0 edges
edges_next g u k edges end are = record {
  each = are.each;
  all = λ v j lv lj b. are.all v j lv lj (⊎_elim
      (λ (l : v < u + 1). dite (dec_lt v u) (λ less. inl less)
      (λ nless. let e : v ≡ u = omega arith in let d : out_degree g v ≡ out_degree g u = ap (λ z. out_degree g z) e in inr (e, omega (arith, d, end, lj))))
      (λ (l : (v ≡ u + 1) × (j < 0)). let l1 = l.1 in absurd (omega (arith, l1))) b);
}

-- No edge yet, and all edges.
pub edges_none : (g : Digraph) (edges : List Edge) → edges ≡ [] → AreTurnedTo g 0 0 edges
edges_none g edges is = subst (AreTurnedTo g 0 0) (sym is) record {
  each = λ k d l. absurd (omega arith);
  all = λ v j lv lj b. ⊎_elim (λ (l : v < 0). absurd (omega arith)) (λ (l : (v ≡ 0) × (j < 0)). let l1 = l.1 in absurd (omega (arith, l1))) b;
}

pub edges_all : (g : Digraph) (u : ℕ) (edges : List Edge) → u ≡ vertex_count g → AreTurnedTo g u 0 edges → AreTurned g edges
edges_all g u edges end are = record { each = are.each; all = λ v j lv lj. are.all v j lv lj (inl (omega (arith, end, lv))) }

-- The execution times of urgent vertices, and of vertices past the last one.
urgent_works : (vertices : List Vertex) (v : ℕ) → (get_or (map urgent vertices) v no_vertex).wcet ≡ (get_or vertices v no_vertex).wcet
urgent_works [] zero = refl
urgent_works [] (suc v) = refl
urgent_works (x ∷ vertices) zero = refl
urgent_works (x ∷ vertices) (suc v) = urgent_works vertices v

module _ (g : Digraph) (sound : IsSoundGraph g) (t : Task) (is : IsTurnedTask g t) (kept_sound : IsSoundGraph (digraph_of t)) where
  same_count : vertex_count (digraph_of t) ≡ vertex_count g
  same_count = ap length is.vertices ∙ length-map g.vertices urgent

  -- The edges out of v are those of the task that leave it.
  row_at : (v : ℕ) → v < vertex_count (digraph_of t) → out_edges (digraph_of t) v ≡ edges_from t.edges v
  row_at v l = get_or-map-range_with_len (edges_from t.edges) 0 (length t.vertices) v v [] l (omega arith)

  turned_due : (v : ℕ) → v < vertex_count g → deadline (digraph_of t) v ≡ 1
  turned_due v l =
      ap (λ (vertices : List Vertex). (get_or vertices v no_vertex).deadline) is.vertices
      ∙ ap (λ (x : Vertex). x.deadline) (get_or-map urgent g.vertices v no_vertex no_vertex l)

  -- Where the turned edge of the k-th edge out of u stands.
  turned_at : (u k v : ℕ) → u < vertex_count g → k < out_degree g u → (edge_of g u k).to ≡ v → v < vertex_count (digraph_of t)
      → (c : ℕ) × (c < out_degree (digraph_of t) v) × (edge_of (digraph_of t) v c ≡ turned_edge g u k)
  turned_at u k v lu lk to lv =
      let has = is.edges.all u k lu lk in
      let d : Edge = turned_edge g u k in
      let leaves : (get_or t.edges has.0 d).from ≡ v = ap (λ (x : Edge). x.from) has.2 ∙ to in
      let there = kept (λ (x : Edge). eqb x.from v) t.edges has.0 d has.1 (eq-eqb _ v leaves) in
      let within : there.0 < length (out_edges (digraph_of t) v) = rw (row_at v lv) there.1 in (
        there.0,
        within,
        get_or_default (out_edges (digraph_of t) v) there.0 no_edge d within ∙ ap (λ (xs : List Edge). get_or xs there.0 d) (row_at v lv) ∙ there.2 ∙ has.2,
      )

  turned_there : (u v p : ℕ) → sep g u v ≡ Some p → sep (digraph_of t) v u ≡ Some p
  turned_there u v p is_edge =
      let k = edge_of_sep g u v p is_edge in
      let lv : v < vertex_count (digraph_of t) = omega (arith, same_count, (target_of g sound u v p is_edge).0) in
      let c = turned_at u k.0 v (source_of g sound u v p is_edge) k.1 k.2 lv in
      let to = ap (λ (x : Edge). x.to) c.2 in
      let long : (edge_of (digraph_of t) v c.0).sep ≡ p = ap (λ (x : Edge). x.sep) c.2 ∙ k.3 in
      subst (λ z. sep (digraph_of t) v z ≡ Some p) to (sep_of_edge (digraph_of t) kept_sound v c.0 lv c.1 ∙ ap Some long)

  -- Each edge out of v is a turned one.
  each_turned : (v k : ℕ) → v < vertex_count (digraph_of t) → k < out_degree (digraph_of t) v → IsTurnedEdge g (edge_of (digraph_of t) v k)
  each_turned v k lv lk =
      let all : All (IsTurnedEdge g) (out_edges (digraph_of t) v) = subst (All (IsTurnedEdge g)) (sym (row_at v lv)) (All-filter (λ (x : Edge). eqb x.from v) (IsTurnedEdge g) t.edges is.edges.each) in
      all k no_edge lk

  turned_back : (u v p : ℕ) → sep (digraph_of t) v u ≡ Some p → sep g u v ≡ Some p
  turned_back u v p is_edge =
      let k = edge_of_sep (digraph_of t) v u p is_edge in
      let lv = source_of (digraph_of t) kept_sound v u p is_edge in
      let e : Edge = edge_of (digraph_of t) v k.0 in
      let i = each_turned v k.0 lv k.1 in
      let from : (edge_of g e.to i.number).to ≡ v = sym (ap (λ (x : Edge). x.from) i.is) ∙ kept_sound.from v k.0 lv k.1 in
      let long : (edge_of g e.to i.number).sep ≡ p = sym (ap (λ (x : Edge). x.sep) i.is) ∙ k.3 in
      let there = sep_of_edge g sound e.to i.number i.vertex i.edge ∙ ap Some long in
      subst (λ z. sep g z v ≡ Some p) k.2 (subst (λ z. sep g e.to z ≡ Some p) from there)

  pub turned_is : IsTurned g (digraph_of t)
  turned_is = record {
    count = same_count;
    works = λ v. ap (λ (vertices : List Vertex). (get_or vertices v no_vertex).wcet) is.vertices ∙ urgent_works g.vertices v;
    due = turned_due;
    edges = turned_there;
    back = turned_back;
  }
