-- Walks of a search of demand labels, as walks of the graph.
use Rattle.std.proofs.Common.{◌≡◌, ℕ, ◌+◌, ◌<◌, ◌≤◌, Some, List, [], ◌∷◌, ◌++◌, reverse, refl, sym, ap, ◌∙◌, subst, arith}
use Rattle.std.specs.Prelude.{IsTrue}
use Rattle.std.proofs.lemmas.Bool.{leb-true, le-leb}
use Rattle.std.proofs.lemmas.Bool.Decides.{nat_tests}
use Rattle.std.proofs.lemmas.List.{reverse-append}
use Rattle.drt_graph.specs.FrontEntry.{due, Covers}
use Rattle.drt_graph.specs.WalkLabel.{demand_of, IsLabelOf}
use Rattle.drt_graph.proofs.WalkLabels.{same_entry, more, label_one, label_more, label_vertex}
use Rattle.drt_model.specs.Digraph.{Digraph, IsSoundGraph, IsConstrainedGraph, vertex_count, out_degree, edge_of}
use Rattle.drt_model.specs.Walk.{gap, wcet, deadline, sep, IsEdge, IsPath, last_of, span, work}
use Rattle.drt_graph.proofs.Edges.{sep_of_edge, edge_of_sep, gap_of, source_of}
use Rattle.drt_graph.proofs.Paths.{last_both, work_cons, work_none, span_cons, span_none}
use Rattle.drt_graph.specs.declared.front.FrontEntry.{FrontEntry}
use Rattle.drt_demand.specs.Demand.{demand_algebra, opening_entry, extend, entry_dominates}
use Rattle.drt_demand.specs.Laws.{demand_laws}
use Rattle.drt_table.specs.Machine.{Setting, in_range, extended}
use Rattle.drt_table.specs.Walk.{WalkTo, IsWalkLabel}
use Rattle.drt_table.specs.Cover.{IsNonDominated as IsAlone}
use Rattle.drt_table.proofs.Walks.{walk_vertex, walk_range}
use Rattle.drt_wave.specs.Fronts.{IsWalkEntry, IsNonDominatedEntry}

-- A walk given backwards, forwards: its first vertex, those after it, and its label.
pub record IsPathTo (g : Digraph) (v : ℕ) (before : List ℕ) (l : FrontEntry) : Type 0 where
  pub first : ℕ
  pub others : List ℕ
  pub forward : reverse (v ∷ before) ≡ first ∷ others
  pub last : last_of first others ≡ v
  pub label : IsLabelOf g first others l

-- On a path with constrained deadlines the first job is due by the last one's deadline.
pub path_due : (g : Digraph) → IsSoundGraph g → IsConstrainedGraph g → (u : ℕ) (vs : List ℕ) → IsPath g u vs → deadline g u ≤ span g u vs + deadline g (last_of u vs)
path_due g sound con u [] p = let e = span_none g u in omega (arith, e)
path_due g sound con u (v ∷ vs) p =
    let k = edge_of_sep g u v (gap g u v) p.0 in
    let d = con u k.0 (source_of g sound u v (gap g u v) p.0) k.1 in
    let e = span_cons g u v vs in
    let s = k.3 in
    omega (arith, d, e, s)

module _ (t : Setting) (sound : IsSoundGraph t.graph) where
  -- A label extended by an edge with these ends and this separation.
  extended_is : (m : FrontEntry) (u k v s : ℕ) → m.vertex ≡ u → (edge_of t.graph u k).sep ≡ s → (edge_of t.graph u k).to ≡ v → extended demand_algebra t m k ≡ extend m s v (wcet t.graph v)
  extended_is m u k v s p q r =
      ap (λ x. extend m (edge_of t.graph x k).sep (edge_of t.graph x k).to (wcet t.graph (edge_of t.graph x k).to)) p
      ∙ (ap (λ y. extend m y (edge_of t.graph u k).to (wcet t.graph (edge_of t.graph u k).to)) q
      ∙ ap (λ z. extend m s z (wcet t.graph z)) r)

  -- A label in range of a vertex is due within the bound.
  due_of_range : (l : FrontEntry) → IsTrue (in_range demand_algebra t l) → l.offset + deadline t.graph l.vertex ≤ t.bound
  due_of_range l r = leb-true (l.offset + deadline t.graph l.vertex) t.bound r

  path_more : (v : ℕ) (u : ℕ) (before : List ℕ) (l m : FrontEntry) (k : ℕ) → IsPathTo t.graph u before m → m.vertex ≡ u
      → k < out_degree t.graph u → (edge_of t.graph u k).to ≡ v → l ≡ extended demand_algebra t m k → IsPathTo t.graph v (u ∷ before) l
  path_more v u before l m k p at lt to is =
      let lu : u < vertex_count t.graph = subst (λ x. x < vertex_count t.graph) at (label_vertex t.graph p.first p.others m sound p.label) in
      let named : sep t.graph u v ≡ Some (edge_of t.graph u k).sep = subst (λ x. sep t.graph u x ≡ Some (edge_of t.graph u k).sep) to (sep_of_edge t.graph sound u k lu lt) in
      let g = gap_of t.graph u v (edge_of t.graph u k).sep named in
      let step : IsEdge t.graph m.vertex v = subst (λ x. IsEdge t.graph x v) (sym at) g.1 in
      let same : more t.graph m v ≡ l = ap (λ x. extend m (gap t.graph x v) v (wcet t.graph v)) at ∙ sym (is ∙ extended_is m u k v (gap t.graph u v) at (sym g.0) to) in
      record {
        first = p.first;
        others = p.others ++ v ∷ [];
        forward = reverse-append (v ∷ []) (u ∷ before) ∙ ap (λ xs. xs ++ v ∷ []) p.forward;
        last = last_both p.first p.others (v ∷ []);
        label = subst (IsLabelOf t.graph p.first (p.others ++ v ∷ [])) same (label_more t.graph p.first p.others m v p.label step);
      }

  -- A walk of the search is a path.
  pub path_to : (v : ℕ) (before : List ℕ) (l : FrontEntry) → WalkTo demand_algebra t v before l → IsPathTo t.graph v before l
  path_to v [] l w = record { first = v; others = []; forward = refl; last = refl; label = subst (IsLabelOf t.graph v []) (sym w.1) (label_one t.graph v w.0) }
  path_to v (u ∷ before) l w =
      path_more v u before l w.1 w.0 (path_to u before w.1 w.2) (walk_vertex demand_algebra demand_laws t u before w.1 w.2) w.3 w.4 w.5

  -- The label of a walk of the search is an entry.
  pub walk_entry : (l : FrontEntry) → IsWalkLabel demand_algebra t l → IsWalkEntry t.graph t.bound l
  walk_entry l w =
      let p = path_to w.0 w.1 l w.2 in
      record { first = p.first; others = p.others; label = p.label; within = due_of_range l (walk_range demand_algebra demand_laws t w.0 w.1 l w.2) }

  module _ (con : IsConstrainedGraph t.graph) where
    -- The label of a walk that goes on from u over these vertices.
    abbrev gone : FrontEntry → ℕ → List ℕ → FrontEntry
    gone m u vs = record { vertex = last_of u vs; offset = m.offset + span t.graph u vs; work = m.work + work t.graph vs }

    -- Each walk due within the bound is one of the search: each of its first parts is due within the bound too.
    walk_on : (u : ℕ) (before : List ℕ) (m : FrontEntry) → WalkTo demand_algebra t u before m → (vs : List ℕ) → IsPath t.graph u vs
        → m.offset + span t.graph u vs + deadline t.graph (last_of u vs) ≤ t.bound → IsWalkLabel demand_algebra t (gone m u vs)
    walk_on u before m w [] p d =
        let at = walk_vertex demand_algebra demand_laws t u before m w in
        let s = span_none t.graph u in
        let n = work_none t.graph in
        (u, before, subst (λ x. WalkTo demand_algebra t u before x) (same_entry m (gone m u []) at (omega (arith, s)) (omega (arith, n))) w)
    walk_on u before m w (v ∷ vs) p d =
        let at = walk_vertex demand_algebra demand_laws t u before m w in
        let k = edge_of_sep t.graph u v (gap t.graph u v) p.0 in
        let x : FrontEntry = extend m (gap t.graph u v) v (wcet t.graph v) in
        let is : x ≡ extended demand_algebra t m k.0 = sym (extended_is m u k.0 v (gap t.graph u v) at k.3 k.2) in
        let s = span_cons t.graph u v vs in
        let n = work_cons t.graph v vs in
        let first = path_due t.graph sound con v vs p.1 in
        let range : IsTrue (in_range demand_algebra t x) = le-leb (m.offset + gap t.graph u v + deadline t.graph v) t.bound (omega (arith, s, first, d)) in
        let walk : WalkTo demand_algebra t v (u ∷ before) x = (k.0, m, w, k.1, k.2, is, range) in
        let rest = walk_on v (u ∷ before) x walk vs p.1 (omega (arith, s, d)) in
        subst (λ y. IsWalkLabel demand_algebra t y) (same_entry (gone x v vs) (gone m u (v ∷ vs)) refl (omega (arith, s)) (omega (arith, n))) rest

    -- An entry of a walk is the label of a walk of the search.
    pub entry_walk : (e : FrontEntry) → IsWalkEntry t.graph t.bound e → IsWalkLabel demand_algebra t e
    entry_walk e w =
        let x : FrontEntry = opening_entry w.first (wcet t.graph w.first) t.bound in
        let first = path_due t.graph sound con w.first w.others w.label.path in
        let within : due t.graph (demand_of t.graph w.first w.others) ≤ t.bound = subst (λ y. due t.graph y ≤ t.bound) w.label.is w.within in
        let range : IsTrue (in_range demand_algebra t x) = le-leb (0 + deadline t.graph w.first) t.bound (omega (arith, first, within)) in
        let n = work_cons t.graph w.first w.others in
        let rest = walk_on w.first [] x (w.label.is_vertex, refl, range) w.others w.label.path (omega (arith, within)) in
        let same : gone x w.first w.others ≡ demand_of t.graph w.first w.others = same_entry _ _ refl (omega arith) (omega (arith, n)) in
        subst (λ y. IsWalkLabel demand_algebra t y) (same ∙ sym w.label.is) rest

    -- A label that no different one dominates is an entry that no other one covers.
    pub entry_alone : (l : FrontEntry) → IsAlone demand_algebra t l → IsNonDominatedEntry (IsWalkEntry t.graph t.bound) l
    entry_alone l is = record {
      label = walk_entry l is.walk;
      alone = λ d w c. is.alone d (entry_walk d w) (above d c);
    }
      where
        above : (d : FrontEntry) → Covers l.vertex l.offset l.work d → IsTrue (entry_dominates d l)
        above d c = let a = c.0 in let b = c.1 in let e = c.2 in grind (arith, nat_tests)

    -- And the converse.
    pub label_alone : (e : FrontEntry) → IsNonDominatedEntry (IsWalkEntry t.graph t.bound) e → IsAlone demand_algebra t e
    label_alone e is = record {
      walk = entry_walk e is.label;
      alone = λ m w d. is.alone m (walk_entry m w) (above m d);
    }
      where
        above : (m : FrontEntry) → IsTrue (entry_dominates m e) → Covers e.vertex e.offset e.work m
        above m d = (grind (arith, nat_tests), grind (arith, nat_tests), grind (arith, nat_tests))
