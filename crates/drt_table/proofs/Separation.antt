-- The least separation of a graph is at least 1, and at most that of each edge.
use Rattle.std.proofs.Common.{◌≡◌, ℕ, suc, zero, ◌+◌, ◌<◌, ◌≤◌, ◌⊎◌, true, false, Option, Some, None, List, [], ◌∷◌, length, refl, sym, ap, ◌∙◌, subst, inl, inr, arith}
use Rattle.std.specs.Prelude.{slice_get, min, unwrap_or}
use Rattle.std.proofs.lemmas.Option.{none-some, same_Some, slice_get-get_or, slice_get_within, get_or_from_slice_get}
use Rattle.std.proofs.Math.Nat.{min-le_left, min-le_right}
use Rattle.drt_model.specs.Digraph.{IsSoundGraph, out_edges, out_degree, edge_of, no_edge}
use Rattle.drt_model.specs.declared.tasks.Edge.{Edge}
use Rattle.drt_table.specs.Earliest.{smaller, least_of}
use Rattle.drt_table.specs.Machine.{Setting, shortest, separation}
use Rattle.drt_table.proofs.Earliest.{IsLeast, least_is, none_least}

-- a number that is there and at most m
pub record AtMost (o : Option ℕ) (m : ℕ) : Type 0 where
  pub number : ℕ
  pub is : o ≡ Some number
  pub le : number ≤ m

smaller_left : (o p : Option ℕ) (m : ℕ) → AtMost o m → AtMost (smaller o p) m
smaller_left None p m h = absurd (none-some h.number h.is)
smaller_left (Some k) None m h = h
smaller_left (Some k) (Some n) m h =
    let e : k ≡ h.number = same_Some k h.number h.is in
    let le : min k n ≤ k = min-le_left k n in
    let hl : h.number ≤ m = h.le in
    record { number = min k n; is = refl; le = omega arith }

smaller_right : (o p : Option ℕ) (m : ℕ) → AtMost p m → AtMost (smaller o p) m
smaller_right None p m h = h
smaller_right (Some k) None m h = absurd (none-some h.number h.is)
smaller_right (Some k) (Some n) m h =
    let e : n ≡ h.number = same_Some n h.number h.is in
    let le : min k n ≤ n = min-le_right k n in
    let hl : h.number ≤ m = h.le in
    record { number = min k n; is = refl; le = omega arith }

row_at_most : (row : List Edge) (k : ℕ) (e : Edge) → slice_get row k ≡ Some e → AtMost (least_of (λ (x : Edge). true) (λ x. x.sep) row) e.sep
row_at_most row k e at = by_least (least_of (λ (x : Edge). true) (λ x. x.sep) row) refl
  where
    by_least : (o : Option ℕ) → least_of (λ (x : Edge). true) (λ x. x.sep) row ≡ o → AtMost o e.sep
    by_least None h = absurd (let no : true ≡ false = none_least (λ (x : Edge). true) (λ x. x.sep) row h k e at in cc)
    by_least (Some m) h = record { number = m; is = refl; le = (least_is (λ (x : Edge). true) (λ x. x.sep) row m h).below k e at refl }

shortest_at_most : (rows : List (List Edge)) (v k : ℕ) (row : List Edge) (e : Edge) → slice_get rows v ≡ Some row → slice_get row k ≡ Some e → AtMost (shortest rows) e.sep
shortest_at_most [] v k row e h at = absurd (none-some row h)
shortest_at_most (r ∷ rows) zero k row e h at = smaller_left (least_of (λ (x : Edge). true) (λ x. x.sep) r) (shortest rows) e.sep
    (subst (λ (z : List Edge). AtMost (least_of (λ (x : Edge). true) (λ x. x.sep) z) e.sep) (sym (same_Some r row h)) (row_at_most row k e at))
shortest_at_most (r ∷ rows) (suc v) k row e h at = smaller_right (least_of (λ (x : Edge). true) (λ x. x.sep) r) (shortest rows) e.sep (shortest_at_most rows v k row e h at)

-- an edge that has the separation
record HasEdge (rows : List (List Edge)) (m : ℕ) : Type 0 where
  v : ℕ
  row : List Edge
  at_row : slice_get rows v ≡ Some row
  k : ℕ
  edge : Edge
  at : slice_get row k ≡ Some edge
  is : edge.sep ≡ m

row_has : (r : List Edge) (rows : List (List Edge)) (m : ℕ) → least_of (λ (x : Edge). true) (λ x. x.sep) r ≡ Some m → HasEdge (r ∷ rows) m
row_has r rows m h =
    let l : IsLeast (λ (x : Edge). true) (λ x. x.sep) r m = least_is (λ (x : Edge). true) (λ x. x.sep) r m h in
    record { v = 0; row = r; at_row = refl; k = l.number; edge = l.item; at = l.at; is = l.is }

rest_has : (r : List Edge) (rows : List (List Edge)) (m : ℕ) → HasEdge rows m → HasEdge (r ∷ rows) m
rest_has r rows m h = record { v = suc h.v; row = h.row; at_row = h.at_row; k = h.k; edge = h.edge; at = h.at; is = h.is }

min_is : (m n : ℕ) → (min m n ≡ m) ⊎ (min m n ≡ n)
min_is m n = grind arith

shortest_has : (rows : List (List Edge)) (m : ℕ) → shortest rows ≡ Some m → HasEdge rows m
shortest_has [] m h = absurd (none-some m h)
shortest_has (r ∷ rows) m h = by_parts (least_of (λ (x : Edge). true) (λ x. x.sep) r) (shortest rows) refl (λ n e. shortest_has rows n e) h
  where
    by_parts : (o p : Option ℕ) → least_of (λ (x : Edge). true) (λ x. x.sep) r ≡ o → ((n : ℕ) → p ≡ Some n → HasEdge rows n) → smaller o p ≡ Some m → HasEdge (r ∷ rows) m
    by_parts None p e rest h = rest_has r rows m (rest m h)
    by_parts (Some k) None e rest h = row_has r rows m (e ∙ h)
    by_parts (Some k) (Some n) e rest h =
        elim (min_is k n) as (λ _. HasEdge (r ∷ rows) m) [
          | inl q ↦ row_has r rows m (e ∙ (ap (λ j. Some j) (sym q) ∙ h))
          | inr q ↦ rest_has r rows m (rest m (ap (λ j. Some j) (sym q) ∙ h))
        ]

module _ (t : Setting) (sound : IsSoundGraph t.graph) where
  pub separation_le : (v k : ℕ) → v < length t.graph.vertices → k < out_degree t.graph v → separation t ≤ (edge_of t.graph v k).sep
  separation_le v k lt less =
      let rows_are : length t.graph.out ≡ length t.graph.vertices = sound.rows in
      let at_row : slice_get t.graph.out v ≡ Some (out_edges t.graph v) = slice_get-get_or t.graph.out v [] (omega arith) in
      let at : slice_get (out_edges t.graph v) k ≡ Some (edge_of t.graph v k) = slice_get-get_or (out_edges t.graph v) k no_edge less in
      let h : AtMost (shortest t.graph.out) (edge_of t.graph v k).sep = shortest_at_most t.graph.out v k (out_edges t.graph v) (edge_of t.graph v k) at_row at in
      subst (λ (o : Option ℕ). unwrap_or o (t.bound + 1) ≤ (edge_of t.graph v k).sep) (sym h.is) h.le

  by_shortest : (o : Option ℕ) → shortest t.graph.out ≡ o → 1 ≤ unwrap_or o (t.bound + 1)
  by_shortest None e = omega arith
  by_shortest (Some m) e =
      let h : HasEdge t.graph.out m = shortest_has t.graph.out m e in
      let rows_are : length t.graph.out ≡ length t.graph.vertices = sound.rows in
      let row_within : h.v < length t.graph.out = slice_get_within t.graph.out h.v h.row h.at_row in
      let within : h.v < length t.graph.vertices = omega arith in
      let row_is : out_edges t.graph h.v ≡ h.row = get_or_from_slice_get t.graph.out h.v h.row [] h.at_row in
      let at : slice_get (out_edges t.graph h.v) h.k ≡ Some h.edge = ap (λ r. slice_get r h.k) row_is ∙ h.at in
      let less : h.k < out_degree t.graph h.v = slice_get_within (out_edges t.graph h.v) h.k h.edge at in
      let edge_is : edge_of t.graph h.v h.k ≡ h.edge = get_or_from_slice_get (out_edges t.graph h.v) h.k h.edge no_edge at in
      subst (λ (n : ℕ). 1 ≤ n) h.is (subst (λ (x : Edge). 1 ≤ x.sep) edge_is (sound.sep h.v h.k within less).0)

  pub separation_some : 1 ≤ separation t
  separation_some = by_shortest (shortest t.graph.out) refl
