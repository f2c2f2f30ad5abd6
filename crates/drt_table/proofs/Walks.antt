-- Labels of walks in range: their vertex, their bound, one more edge.
use Rattle.std.proofs.Common.{◌≡◌, ℕ, ◌<◌, List, [], ◌∷◌, length, refl, sym, ap, ◌∙◌, subst}
use Rattle.std.specs.Prelude.{IsTrue}
use Rattle.drt_label.specs.Algebra.{Algebra, Laws}
use Rattle.drt_model.specs.Digraph.{IsSoundGraph, vertex_of, edge_of, out_degree}
use Rattle.drt_table.specs.Machine.{Setting, in_range, extended}
use Rattle.drt_table.specs.Walk.{WalkTo, IsWalkLabel}

module _ {L : Type 0} (a : Algebra L) (laws : Laws a) (t : Setting) where
  pub extended_vertex : (l : L) (k : ℕ) → a.vertex (extended a t l k) ≡ (edge_of t.graph (a.vertex l) k).to
  extended_vertex l k = laws.extended_vertex l (edge_of t.graph (a.vertex l) k).sep (edge_of t.graph (a.vertex l) k).to (vertex_of t.graph (edge_of t.graph (a.vertex l) k).to).wcet

  pub walk_vertex : (v : ℕ) (before : List ℕ) (l : L) → WalkTo a t v before l → a.vertex l ≡ v
  walk_vertex v [] l w = ap a.vertex w.1 ∙ laws.opening_vertex v (vertex_of t.graph v).wcet t.bound
  walk_vertex v (u ∷ before) l w = ap a.vertex w.5 ∙ (extended_vertex w.1 w.0 ∙ (ap (λ x. (edge_of t.graph x w.0).to) (walk_vertex u before w.1 w.2) ∙ w.4))

  pub walk_range : (v : ℕ) (before : List ℕ) (l : L) → WalkTo a t v before l → IsTrue (in_range a t l)
  walk_range v [] l w = w.2
  walk_range v (u ∷ before) l w = w.6

  pub walk_within : IsSoundGraph t.graph → (v : ℕ) (before : List ℕ) (l : L) → WalkTo a t v before l → v < length t.graph.vertices
  walk_within sound v [] l w = w.0
  walk_within sound v (u ∷ before) l w = subst (λ (x : ℕ). x < length t.graph.vertices) w.4 (sound.to u w.0 (walk_within sound u before w.1 w.2) w.3)

  pub walk_of : IsTrue (a.takes_bound t.bound) → (v : ℕ) (before : List ℕ) (l : L) → WalkTo a t v before l → IsTrue (a.is_of l t.bound)
  walk_of takes v [] l w = subst (λ (x : L). IsTrue (a.is_of x t.bound)) (sym w.1) (laws.opening_of v (vertex_of t.graph v).wcet t.bound takes)
  walk_of takes v (u ∷ before) l w =
      let e = edge_of t.graph (a.vertex w.1) w.0 in
      subst (λ (x : L). IsTrue (a.is_of x t.bound)) (sym w.5) (laws.extended_of w.1 e.sep e.to (vertex_of t.graph e.to).wcet t.bound (walk_of takes u before w.1 w.2))

  -- a walk that goes on by an edge
  pub walk_more : (l : L) (k : ℕ) → IsWalkLabel a t l → k < out_degree t.graph (a.vertex l) → IsTrue (in_range a t (extended a t l k)) → IsWalkLabel a t (extended a t l k)
  walk_more l k w lt r =
      let e : a.vertex l ≡ w.0 = walk_vertex w.0 w.1 l w.2 in
      ((edge_of t.graph w.0 k).to, w.0 ∷ w.1, (k, l, w.2, subst (λ (x : ℕ). k < out_degree t.graph x) e lt, refl, refl, r))
