-- The labels of walks, part by part and edge by edge.
use Rattle.std.proofs.Common.{◌≡◌, ℕ, ◌+◌, ◌<◌, List, [], ◌∷◌, ◌++◌, refl, sym, ap, ◌∙◌, subst, arith}
use Rattle.drt_model.specs.Digraph.{Digraph, IsSoundGraph, vertex_count}
use Rattle.drt_model.specs.Walk.{gap, wcet, IsEdge, IsPath, last_of, work, span}
use Rattle.drt_graph.specs.declared.front.FrontEntry.{FrontEntry}
use Rattle.drt_graph.specs.WalkLabel.{demand_of, IsLabelOf}
use Rattle.drt_graph.proofs.Edges.{target_of}
use Rattle.drt_graph.proofs.Paths.{path_both, path_within, last_both, work_both, span_both, work_cons, work_none, span_cons, span_none}

-- Entries with the same parts are equal.
pub same_entry : (d e : FrontEntry) → d.vertex ≡ e.vertex → d.offset ≡ e.offset → d.work ≡ e.work → d ≡ e
same_entry d e p q r = λ i. record { vertex = p i; offset = q i; work = r i }

-- The parts of an entry are the last vertex, the span and the work of a walk.
pub record HasParts (g : Digraph) (u : ℕ) (others : List ℕ) (e : FrontEntry) : Type 0 where
  pub vertex : e.vertex ≡ last_of u others
  pub offset : e.offset ≡ span g u others
  pub works : e.work ≡ work g (u ∷ others)

pub parts_of : {g : Digraph} {u : ℕ} {others : List ℕ} {e : FrontEntry} → IsLabelOf g u others e → HasParts g u others e
parts_of label = record { vertex = ap (λ x. x.vertex) label.is; offset = ap (λ x. x.offset) label.is; works = ap (λ x. x.work) label.is }

pub label_of_parts : (g : Digraph) (u : ℕ) (others : List ℕ) (e : FrontEntry) → u < vertex_count g → IsPath g u others → HasParts g u others e → IsLabelOf g u others e
label_of_parts g u others e is_vertex path parts =
    record { is_vertex = is_vertex; path = path; is = same_entry e (demand_of g u others) parts.vertex parts.offset parts.works }

-- The label that goes on by an edge to v.
abbrev pub more : Digraph → FrontEntry → ℕ → FrontEntry
more g e v = record { vertex = v; offset = e.offset + gap g e.vertex v; work = e.work + wcet g v }

-- The label of a single vertex.
pub demand_one : (g : Digraph) (u : ℕ) → demand_of g u [] ≡ record { vertex = u; offset = 0; work = wcet g u }
demand_one g u = let c = work_cons g u [] in let n = work_none g in same_entry _ _ refl (span_none g u) (omega (arith, c, n))

-- The label of a walk that goes on by an edge.
pub demand_more : (g : Digraph) (u : ℕ) (vs : List ℕ) (v : ℕ) → demand_of g u (vs ++ v ∷ []) ≡ more g (demand_of g u vs) v
demand_more g u vs v =
    let s = span_both g u vs (v ∷ []) in let s1 = span_cons g (last_of u vs) v [] in let s2 = span_none g v in
    let w = work_both g (u ∷ vs) (v ∷ []) in let w1 = work_cons g v [] in let w2 = work_none g in
    same_entry _ _ (last_both u vs (v ∷ [])) (omega (arith, s, s1, s2)) (omega (arith, w, w1, w2))

pub label_one : (g : Digraph) (u : ℕ) → u < vertex_count g → IsLabelOf g u [] (record { vertex = u; offset = 0; work = wcet g u })
label_one g u lu = record { is_vertex = lu; path = tt; is = sym (demand_one g u) }

pub label_more : (g : Digraph) (u : ℕ) (others : List ℕ) (e : FrontEntry) (v : ℕ) → IsLabelOf g u others e → IsEdge g e.vertex v → IsLabelOf g u (others ++ v ∷ []) (more g e v)
label_more g u others e v label edge =
    let on : IsEdge g (last_of u others) v = subst (λ (x : FrontEntry). IsEdge g x.vertex v) label.is edge in
    record { is_vertex = label.is_vertex; path = path_both g u others (v ∷ []) label.path (on, tt); is = ap (λ x. more g x v) label.is ∙ sym (demand_more g u others v) }

-- It is of a vertex of the graph.
pub label_vertex : (g : Digraph) (u : ℕ) (others : List ℕ) (e : FrontEntry) → IsSoundGraph g → IsLabelOf g u others e → e.vertex < vertex_count g
label_vertex g u others e sound label =
    subst (λ (x : FrontEntry). x.vertex < vertex_count g) (sym label.is) (path_within g sound u others label.is_vertex label.path)

-- A walk of span 0 is one vertex.
single_work : (g : Digraph) → IsSoundGraph g → (u : ℕ) (vs : List ℕ) → IsPath g u vs → span g u vs ≡ 0 → work g (u ∷ vs) ≡ wcet g (last_of u vs)
single_work g sound u [] p none = let w = work_cons g u [] in let n = work_none g in omega (arith, w, n)
single_work g sound u (v ∷ vs) p none =
    let l = (target_of g sound u v (gap g u v) p.0).1 in
    let s = span_cons g u v vs in
    absurd (omega (arith, l, s, none))

-- So a label without an offset has the work of its vertex.
pub label_single : (g : Digraph) (u : ℕ) (others : List ℕ) (e : FrontEntry) → IsSoundGraph g → IsLabelOf g u others e → e.offset ≡ 0 → e.work ≡ wcet g e.vertex
label_single g u others e sound label none =
    let parts = parts_of label in
    parts.works ∙ (single_work g sound u others label.path (sym parts.offset ∙ none) ∙ ap (wcet g) (sym parts.vertex))
