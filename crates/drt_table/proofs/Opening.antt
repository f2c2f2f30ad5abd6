-- The opening state has the facts.
use Rattle.std.proofs.Common.{◌≡◌, ℕ, suc, zero, ◌+◌, ◌<◌, ◌≤◌, Bool, true, false, cond, Some, None, [], ◌∷◌, length, refl, sym, ap, ◌∙◌, subst, inl, inr, arith}
use Rattle.std.specs.Prelude.{slice_get, IsTrue}
use Rattle.std.proofs.lemmas.Option.{none-some, same_Some}
use Rattle.drt_label.specs.Algebra.{Algebra, Laws}
use Rattle.drt_model.specs.Digraph.{vertex_of, out_degree}
use Rattle.drt_table.specs.Node.{NodeOf, is_kept, is_taken, is_taken_state, fresh}
use Rattle.drt_table.specs.declared.node.NodeState.TheVariants.{Pending, Done}
use Rattle.drt_table.specs.Machine.{Setting, opening_label, in_range, opening_nodes}
use Rattle.drt_table.specs.Walk.{IsWalkLabel}
use Rattle.drt_table.specs.Facts.{Facts, Order, WasTaken, HasNode}

module _ {L : Type 0} (a : Algebra L) (laws : Laws a) (t : Setting) where
  -- an opening node, of one of the n vertices from v on
  record OpeningAt (v n : ℕ) (y : NodeOf L) : Type 0 where
    vertex : ℕ
    low : v ≤ vertex
    high : vertex < v + n
    range : IsTrue (in_range a t (opening_label a t vertex))
    is : y ≡ fresh (opening_label a t vertex) None

  higher : (v n : ℕ) (y : NodeOf L) → OpeningAt (v + 1) n y → OpeningAt v (suc n) y
  higher v n y o = record { vertex = o.vertex; low = let h : v + 1 ≤ o.vertex = o.low in omega arith; high = let h : o.vertex < v + 1 + n = o.high in omega arith; range = o.range; is = o.is }

  opening_at_head : (v n : ℕ) (i : ℕ) (y : NodeOf L) (b : Bool) → in_range a t (opening_label a t v) ≡ b
      → ((j : ℕ) → slice_get (opening_nodes a t (v + 1) n) j ≡ Some y → OpeningAt (v + 1) n y)
      → slice_get (cond b (fresh (opening_label a t v) None ∷ opening_nodes a t (v + 1) n) (opening_nodes a t (v + 1) n)) i ≡ Some y → OpeningAt v (suc n) y
  opening_at_head v n zero y true e rest h = record { vertex = v; low = omega arith; high = omega arith; range = e; is = sym (same_Some (fresh (opening_label a t v) None) y h) }
  opening_at_head v n (suc i) y true e rest h = higher v n y (rest i h)
  opening_at_head v n i y false e rest h = higher v n y (rest i h)

  opening_at : (n v i : ℕ) (y : NodeOf L) → slice_get (opening_nodes a t v n) i ≡ Some y → OpeningAt v n y
  opening_at zero v i y h = absurd (none-some y h)
  opening_at (suc n) v i y h = opening_at_head v n i y (in_range a t (opening_label a t v)) refl (λ j. opening_at n (v + 1) j y) h

  vertex_is : (v n : ℕ) (y : NodeOf L) (o : OpeningAt v n y) → a.vertex y.label ≡ o.vertex
  vertex_is v n y o = ap (λ (z : NodeOf L). a.vertex z.label) o.is ∙ laws.opening_vertex o.vertex (vertex_of t.graph o.vertex).wcet t.bound

  head_vertex : (v n : ℕ) (y : NodeOf L) → fresh (opening_label a t v) None ≡ y → a.vertex y.label ≡ v
  head_vertex v n y e = ap (λ (z : NodeOf L). a.vertex z.label) (sym e) ∙ laws.opening_vertex v (vertex_of t.graph v).wcet t.bound

  rest_vertex : (v n : ℕ) (y : NodeOf L) → OpeningAt (v + 1) n y → v < a.vertex y.label
  rest_vertex v n y o = let e : a.vertex y.label ≡ o.vertex = vertex_is (v + 1) n y o in let h : v + 1 ≤ o.vertex = o.low in omega arith

  distinct_head : (v n i j : ℕ) (y z : NodeOf L) (b : Bool)
      → ((i j : ℕ) → slice_get (opening_nodes a t (v + 1) n) i ≡ Some y → slice_get (opening_nodes a t (v + 1) n) j ≡ Some z → i ≡ j)
      → slice_get (cond b (fresh (opening_label a t v) None ∷ opening_nodes a t (v + 1) n) (opening_nodes a t (v + 1) n)) i ≡ Some y
      → slice_get (cond b (fresh (opening_label a t v) None ∷ opening_nodes a t (v + 1) n) (opening_nodes a t (v + 1) n)) j ≡ Some z
      → a.vertex y.label ≡ a.vertex z.label → i ≡ j
  distinct_head v n i j y z false rest h g e = rest i j h g
  distinct_head v n zero zero y z true rest h g e = refl
  distinct_head v n zero (suc j) y z true rest h g e =
      absurd (let p : a.vertex y.label ≡ v = head_vertex v n y (same_Some (fresh (opening_label a t v) None) y h) in
      let q : v < a.vertex z.label = rest_vertex v n z (opening_at n (v + 1) j z g) in omega arith)
  distinct_head v n (suc i) zero y z true rest h g e =
      absurd (let p : a.vertex z.label ≡ v = head_vertex v n z (same_Some (fresh (opening_label a t v) None) z g) in
      let q : v < a.vertex y.label = rest_vertex v n y (opening_at n (v + 1) i y h) in omega arith)
  distinct_head v n (suc i) (suc j) y z true rest h g e = ap suc (rest i j h g)

  pub distinct : (n v i j : ℕ) (y z : NodeOf L) → slice_get (opening_nodes a t v n) i ≡ Some y → slice_get (opening_nodes a t v n) j ≡ Some z → a.vertex y.label ≡ a.vertex z.label → i ≡ j
  distinct zero v i j y z h g e = absurd (none-some y h)
  distinct (suc n) v i j y z h g e = distinct_head v n i j y z (in_range a t (opening_label a t v)) (λ p q h2 g2. distinct n (v + 1) p q y z h2 g2 e) h g e

  node_later : (v n : ℕ) (l : L) (b : Bool) → HasNode a t (opening_nodes a t (v + 1) n) l
      → HasNode a t (cond b (fresh (opening_label a t v) None ∷ opening_nodes a t (v + 1) n) (opening_nodes a t (v + 1) n)) l
  node_later v n l true h = record { number = suc h.number; node = h.node; at = h.at; label = h.label }
  node_later v n l false h = h

  node_here : (v n : ℕ) (b : Bool) → b ≡ true → HasNode a t (cond b (fresh (opening_label a t v) None ∷ opening_nodes a t (v + 1) n) (opening_nodes a t (v + 1) n)) (opening_label a t v)
  node_here v n true e = record { number = 0; node = fresh (opening_label a t v) None; at = refl; label = refl }
  node_here v n false e = absurd (cc)

  has_node : (n v k : ℕ) → k < n → IsTrue (in_range a t (opening_label a t (v + k))) → HasNode a t (opening_nodes a t v n) (opening_label a t (v + k))
  has_node zero v k lt r = absurd (let h : k < 0 = lt in omega arith)
  has_node (suc n) v zero lt r =
      let e : v + 0 ≡ v = omega arith in
      subst (λ (u : ℕ). HasNode a t (opening_nodes a t v (suc n)) (opening_label a t u)) (sym e)
      (node_here v n (in_range a t (opening_label a t v)) (subst (λ (u : ℕ). IsTrue (in_range a t (opening_label a t u))) e r))
  has_node (suc n) v (suc k) lt r =
      let e : v + suc k ≡ v + 1 + k = omega arith in
      let fewer : k < n = omega arith in
      subst (λ (u : ℕ). HasNode a t (opening_nodes a t v (suc n)) (opening_label a t u)) (sym e)
      (node_later v n (opening_label a t (v + 1 + k)) (in_range a t (opening_label a t v))
      (has_node n (v + 1) k fewer (subst (λ (u : ℕ). IsTrue (in_range a t (opening_label a t u))) e r)))

  walk_at : (n : ℕ) (y : NodeOf L) → n ≡ length t.graph.vertices → OpeningAt 0 n y → IsWalkLabel a t y.label
  walk_at n y e o =
      let h : o.vertex < 0 + n = o.high in
      let lt : o.vertex < length t.graph.vertices = omega arith in
      subst (λ (z : NodeOf L). IsWalkLabel a t z.label) (sym o.is) (o.vertex, [], (lt, refl, o.range))

  pub opening_facts : Facts a t (opening_nodes a t 0 (length t.graph.vertices))
  opening_facts =
      let n : ℕ = length t.graph.vertices in
      record {
        walks = λ i y h. walk_at n y refl (opening_at n 0 i y h);
        alone = λ i j y z hy hz d. distinct n 0 i j y z hy.at hz.at (laws.same_vertex y.label z.label d);
        dropped = λ i y d h e. absurd (none-some d (ap (λ (z : NodeOf L). z.dropped_by) (sym (opening_at n 0 i y h).is) ∙ e));
        offered = λ i y h. subst (λ (z : NodeOf L). z.offered ≤ out_degree t.graph (a.vertex z.label)) (sym (opening_at n 0 i y h).is) (omega arith);
        covered = λ i y k h lt r. absurd (let none_below : k < 0 = subst (λ (z : NodeOf L). k < z.offered) (opening_at n 0 i y h).is lt in omega arith);
        done = λ i y h e. absurd (let pending : Pending ≡ Done = ap (λ (z : NodeOf L). z.state) (sym (opening_at n 0 i y h.at).is) ∙ e in cc);
        roots = λ i y h e.
            let o : OpeningAt 0 n y = opening_at n 0 i y h in
            let high : o.vertex < 0 + n = o.high in
            record { vertex = o.vertex; within = omega arith; label = ap (λ (z : NodeOf L). z.label) o.is };
        children = λ i y p h e. absurd (none-some p (ap (λ (z : NodeOf L). z.parent) (sym (opening_at n 0 i y h).is) ∙ e));
        opened = λ v lt r.
            let e : 0 + v ≡ v = omega arith in
            subst (λ (u : ℕ). HasNode a t (opening_nodes a t 0 n) (opening_label a t u)) e (has_node n 0 v lt (subst (λ (u : ℕ). IsTrue (in_range a t (opening_label a t u))) (sym e) r));
      }

  pub opening_order : Order a t (opening_nodes a t 0 (length t.graph.vertices))
  opening_order =
      let n : ℕ = length t.graph.vertices in
      record {
        before_pending = λ i j m y hm hy w p. absurd (not_was m (ap (λ (z : NodeOf L). z.state) (opening_at n 0 i m hm).is) w);
        near_taken = λ i j m y hm hy w p. absurd (not_was m (ap (λ (z : NodeOf L). z.state) (opening_at n 0 i m hm).is) w);
        taken_kept = λ i y h p. ap is_kept (opening_at n 0 i y h).is;
        pending_kept = λ i y h p. ap is_kept (opening_at n 0 i y h).is;
        pending_idle = λ i y h p. ap (λ (z : NodeOf L). z.offered) (opening_at n 0 i y h).is;
        dropped_idle = λ i y d h g. ap (λ (z : NodeOf L). z.offered) (opening_at n 0 i y h).is;
      }
    where
      not_was : (m : NodeOf L) → m.state ≡ Pending → WasTaken a t m → ⊥
      not_was m e (inl h) = absurd (let no : is_taken m ≡ false = ap is_taken_state e in cc (h, no))
      not_was m e (inr h) = absurd (let no : Pending ≡ Done = sym e ∙ h.0 in cc)

module _ {L : Type 0} (a : Algebra L) (t : Setting) where
  few_head : (v n : ℕ) (b : Bool) → length (opening_nodes a t (v + 1) n) ≤ n → length (cond b (fresh (opening_label a t v) None ∷ opening_nodes a t (v + 1) n) (opening_nodes a t (v + 1) n)) ≤ suc n
  few_head v n true h = omega arith
  few_head v n false h = omega arith

  pub opening_few : (n v : ℕ) → length (opening_nodes a t v n) ≤ n
  opening_few zero v = omega arith
  opening_few (suc n) v = few_head v n (in_range a t (opening_label a t v)) (opening_few n (v + 1))
