-- Where no node is pending and none taken, the kept labels are the front.
use Rattle.std.proofs.Common.{◌≡◌, ℕ, suc, zero, ◌+◌, ◌<◌, ◌≤◌, true, false, Option, Some, None, List, [], ◌∷◌, length, refl, sym, ap, ◌∙◌, subst, arith}
use Rattle.std.specs.Prelude.{slice_get, IsTrue, is_none}
use Rattle.std.proofs.lemmas.Option.{same_Some, slice_get_within}
use Rattle.drt_label.specs.Algebra.{Algebra, Laws}
use Rattle.drt_model.specs.Digraph.{vertex_of, edge_of, out_degree}
use Rattle.drt_table.specs.Node.{NodeOf, is_node_pending, is_taken, is_pending_state, is_taken_state}
use Rattle.drt_table.specs.declared.node.NodeState.{NodeState}
use Rattle.drt_table.specs.declared.node.NodeState.TheVariants.{Pending, Taken, Done}
use Rattle.drt_table.specs.Machine.{Setting, State, opening_label, in_range, extended, offset, next, holder, is_finished}
use Rattle.drt_table.specs.Walk.{WalkTo, IsWalkLabel}
use Rattle.drt_table.specs.Cover.{KeptAt, IsCovered, IsFront}
use Rattle.drt_table.specs.Facts.{Facts, IsDropper, HasNode}
use Rattle.drt_table.proofs.Earliest.{none_earliest, and_left, and_right}
use Rattle.drt_table.proofs.Walks.{walk_vertex, walk_range, walk_of}

done_state : (s : NodeState) → is_pending_state s ≡ false → is_taken_state s ≡ false → s ≡ Done
done_state Pending p q = absurd (cc)
done_state (Taken w) p q = absurd (cc)
done_state Done p q = refl

module _ {L : Type 0} (a : Algebra L) (laws : Laws a) (t : Setting) (takes : IsTrue (a.takes_bound t.bound)) (nodes : List (NodeOf L)) (facts : Facts a t nodes) where
  -- each node is dominated by a kept one
  kept_case : (fuel i : ℕ) (n : NodeOf L) → length nodes ≤ i + suc fuel → slice_get nodes i ≡ Some n
      → ((d : ℕ) (m : NodeOf L) → slice_get nodes d ≡ Some m → i < d → IsCovered a t nodes m.label) → (o : Option ℕ) → n.dropped_by ≡ o → IsCovered a t nodes n.label
  kept_case fuel i n h at rest None e = record { by = i; node = n; kept = record { at = at; kept = ap is_none e }; dominates = laws.reflexive n.label }
  kept_case fuel i n h at rest (Some d) e =
      let o : IsDropper a t nodes i n d = facts.dropped i n d at e in
      let c : IsCovered a t nodes o.by.label = rest d o.by o.at o.later in
      record { by = c.by; node = c.node; kept = c.kept; dominates = laws.transitive c.node.label o.by.label n.label c.dominates o.dominates }

  node_covered_in : (fuel i : ℕ) (n : NodeOf L) → length nodes ≤ i + fuel → slice_get nodes i ≡ Some n → IsCovered a t nodes n.label
  node_covered_in zero i n h at = absurd (let lt : i < length nodes = slice_get_within nodes i n at in omega arith)
  node_covered_in (suc fuel) i n h at = kept_case fuel i n h at (λ d m g lt. node_covered_in fuel d m (omega arith) g) n.dropped_by refl

  pub node_covered : (i : ℕ) (n : NodeOf L) → slice_get nodes i ≡ Some n → IsCovered a t nodes n.label
  node_covered i n at = node_covered_in (length nodes) i n (omega arith) at

  module _ (idle : (i : ℕ) (n : NodeOf L) → slice_get nodes i ≡ Some n → n.state ≡ Done) where
    walk_covered : (v : ℕ) (before : List ℕ) (l : L) → WalkTo a t v before l → IsCovered a t nodes l
    walk_covered v [] l w =
        let o : HasNode a t nodes (opening_label a t v) = facts.opened v w.0 (subst (λ (x : L). IsTrue (in_range a t x)) w.1 w.2) in
        subst (λ (x : L). IsCovered a t nodes x) (o.label ∙ sym w.1) (node_covered o.number o.node o.at)
    walk_covered v (u ∷ before) l w =
        let k : ℕ = w.0 in
        let m : L = w.1 in
        let c : IsCovered a t nodes m = walk_covered u before m w.2 in
        let x : L = c.node.label in
        let same_vertex : a.vertex x ≡ u = laws.same_vertex x m c.dominates ∙ walk_vertex a laws t u before m w.2 in
        let can : IsTrue (a.is_extendable m) = laws.extendable m (vertex_of t.graph (a.vertex m)).deadline t.bound (walk_of a laws t takes u before m w.2) (walk_range a laws t u before m w.2) in
        let e = edge_of t.graph (a.vertex m) k in
        let e_same : extended a t x k ≡ a.extend x e.sep e.to (vertex_of t.graph e.to).wcet =
        ap (λ y. a.extend x (edge_of t.graph y k).sep (edge_of t.graph y k).to (vertex_of t.graph (edge_of t.graph y k).to).wcet) (laws.same_vertex x m c.dominates) in
        let dom : IsTrue (a.dominates (extended a t x k) (extended a t m k)) =
        ap (λ y. a.dominates y (extended a t m k)) e_same ∙ laws.monotone x m e.sep e.to (vertex_of t.graph e.to).wcet c.dominates can in
        let range_l : IsTrue (in_range a t (extended a t m k)) = subst (λ (y : L). IsTrue (in_range a t y)) w.5 w.6 in
        let range_x : IsTrue (in_range a t (extended a t x k)) =
        ap (λ y. a.in_range (extended a t x k) (vertex_of t.graph y).deadline t.bound) (laws.same_vertex (extended a t x k) (extended a t m k) dom)
        ∙ laws.ranges (extended a t x k) (extended a t m k) (vertex_of t.graph (a.vertex (extended a t m k))).deadline t.bound dom range_l in
        let all_offered : c.node.offered ≡ out_degree t.graph (a.vertex x) = facts.done c.by c.node c.kept (idle c.by c.node c.kept.at) in
        let lt : k < c.node.offered = subst (λ (y : ℕ). k < y) (sym all_offered) (subst (λ (y : ℕ). k < out_degree t.graph y) (sym same_vertex) w.3) in
        let d : IsCovered a t nodes (extended a t x k) = facts.covered c.by c.node k c.kept.at lt range_x in
        subst (λ (y : L). IsCovered a t nodes y) (sym w.5)
        (record { by = d.by; node = d.node; kept = d.kept; dominates = laws.transitive d.node.label (extended a t x k) (extended a t m k) d.dominates dom })

    covers : (l : L) → IsWalkLabel a t l → IsCovered a t nodes l
    covers l w = walk_covered w.0 w.1 l w.2

    kept_alone : (k : ℕ) (n : NodeOf L) → KeptAt a t nodes k n → (m : L) → IsWalkLabel a t m → IsTrue (a.dominates m n.label) → m ≡ n.label
    kept_alone k n kept m w d =
        let c : IsCovered a t nodes m = covers m w in
        let same_place : c.by ≡ k = facts.alone c.by k c.node n c.kept kept (laws.transitive c.node.label m n.label c.dominates d) in
        let same : c.node ≡ n = same_Some c.node n (sym c.kept.at ∙ (ap (λ i. slice_get nodes i) same_place ∙ kept.at)) in
        laws.antisymmetric m n.label d (ap (λ (x : NodeOf L). a.dominates x.label m) (sym same) ∙ c.dominates)

    pub front : IsFront a t nodes
    front = record {
      covers = covers;
      sound = λ k n kept. record { walk = facts.walks k n kept.at; alone = kept_alone k n kept };
      complete = λ l h.
          let c : IsCovered a t nodes l = covers l h.walk in
          (c.by, c.node, c.kept, h.alone c.node.label (facts.walks c.by c.node c.kept.at) c.dominates);
      once = λ i j m n hm hn e. facts.alone i j m n hm hn (ap (λ x. a.dominates x n.label) e ∙ laws.reflexive n.label);
    }

none_of : (o : Option ℕ) → is_none o ≡ true → o ≡ None
none_of None e = refl
none_of (Some k) e = absurd (cc)

-- after a run, whoever made its steps, where no node is pending and none taken
pub run_front : {L : Type 0} (a : Algebra L) (laws : Laws a) (t : Setting) → IsTrue (a.takes_bound t.bound) → (s : State L) → Facts a t s.nodes → is_finished a t s ≡ true → IsFront a t s.nodes
run_front a laws t takes s facts h =
    let no_pending : next a t s.nodes ≡ None = none_of (next a t s.nodes) (and_left (is_none (next a t s.nodes)) (is_none (holder a t s.nodes)) h) in
    let no_taken : holder a t s.nodes ≡ None = none_of (holder a t s.nodes) (and_right (is_none (next a t s.nodes)) (is_none (holder a t s.nodes)) h) in
    front a laws t takes s.nodes facts
    (λ i n at. done_state n.state (none_earliest is_node_pending (offset a t) s.nodes no_pending i n at) (none_earliest is_taken (offset a t) s.nodes no_taken i n at))
