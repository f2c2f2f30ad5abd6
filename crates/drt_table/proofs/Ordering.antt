-- Each step keeps the order in which nodes are taken.
use Rattle.std.proofs.Common.{◌≡◌, ℕ, ◌+◌, ◌<◌, ◌≤◌, ◌⊎◌, Bool, true, false, cond, Option, Some, None, List, length, refl, sym, ap, ◌∙◌, subst, inl, inr, arith}
use Rattle.std.specs.Prelude.{slice_get, IsTrue, is_none, ◌&&◌, nat_lt}
use Rattle.std.proofs.lemmas.Option.{same_Some}
use Rattle.std.proofs.lemmas.Bool.Decides.{nat_tests}
use Rattle.drt_label.specs.Algebra.{Algebra, Laws}
use Rattle.drt_model.specs.Digraph.{IsSoundGraph, out_degree, edge_of, vertex_of}
use Rattle.drt_table.specs.Node.{NodeOf, is_kept, is_node_pending, is_taken, is_pending_state, is_taken_state, fresh}
use Rattle.drt_table.specs.declared.node.NodeState.{NodeState}
use Rattle.drt_table.specs.declared.node.NodeState.TheVariants.{Pending, Taken as TakenBy, Done}
use Rattle.drt_table.specs.declared.step.TableStep.{TableStep}
use Rattle.drt_table.specs.declared.step.TableStep.TheVariants.{Take, Offer, Close}
use Rattle.drt_table.specs.declared.step.TableReply.TheVariants.{Busy}
use Rattle.drt_table.specs.declared.step.Entry.{Entry}
use Rattle.drt_table.specs.Machine.{Setting, State, Outcome, separation, in_range, extended, is_full, unchanged, offset, offset_in, offset_at, next, holder, takes, taken, drop_by, dominating, added, compared, offered, offered_at, step_of, CanStep}
use Rattle.drt_worklist.specs.Places.{first, changed}
use Rattle.drt_table.specs.Walk.{IsWalkLabel}
use Rattle.drt_table.specs.Facts.{Facts, Order, WasTaken}
use Rattle.drt_worklist.proofs.Lists.{Before, before_change, changed_at}
use Rattle.drt_worklist.proofs.Views.{Pushed, earlier, last, before_push}
use Rattle.drt_table.proofs.Earliest.{Earliest, found_earliest, none_earliest}
use Rattle.drt_table.proofs.Separation.{separation_le, separation_some}
use Rattle.drt_table.proofs.Walks.{walk_vertex, walk_within}
use Rattle.drt_table.proofs.Adding.{true_not_false}
use Rattle.drt_table.proofs.Steps.{count_one}

pending_is : (s : NodeState) → is_pending_state s ≡ true → s ≡ Pending
pending_is Pending e = refl
pending_is (TakenBy w) e = absurd (cc)
pending_is Done e = absurd (cc)

pub pending_state : {L : Type 0} (n : NodeOf L) → IsTrue (is_node_pending n) → n.state ≡ Pending
pending_state n e = pending_is n.state e

not_was : {L : Type 0} (a : Algebra L) (t : Setting) (n : NodeOf L) → n.state ≡ Pending → WasTaken a t n → ⊥
not_was a t n e (inl h) = absurd (let no : is_taken n ≡ false = ap is_taken_state e in true_not_false h no)
not_was a t n e (inr h) = absurd (let no : Pending ≡ Done = sym e ∙ h.0 in cc)

less_is : (m n : ℕ) → nat_lt m n ≡ true → m < n
less_is m n h = grind (arith, nat_tests)

module _ {L : Type 0} (a : Algebra L) (t : Setting) where
  -- a node that tells no more of the order than an old one
  pub record Weaker (m old : NodeOf L) : Type 0 where
    pub label : m.label ≡ old.label
    pub pending : IsTrue (is_node_pending m) → IsTrue (is_node_pending old)
    pub offered : IsTrue (is_node_pending m) → m.offered ≡ old.offered
    pub taken : IsTrue (is_taken m) → IsTrue (is_taken old)
    pub was : WasTaken a t m → WasTaken a t old
    pub kept : IsTrue (is_kept old) → (IsTrue (is_node_pending m) ⊎ IsTrue (is_taken m)) → IsTrue (is_kept m)
    pub idle : (d : ℕ) → m.dropped_by ≡ Some d → ((e : ℕ) → old.dropped_by ≡ Some e → old.offered ≡ 0) → (IsTrue (is_node_pending old) → old.offered ≡ 0) → m.offered ≡ 0

  -- where a node comes from: an old one, or it is new and no earlier than any that was taken
  pub data Source (nodes : List (NodeOf L)) (i : ℕ) (m : NodeOf L) : Type 0 where
    old : (x : NodeOf L) → slice_get nodes i ≡ Some x → Weaker m x → Source nodes i m
    new : (l : L) (p : Option ℕ) → m ≡ fresh l p → ((j : ℕ) (n : NodeOf L) → slice_get nodes j ≡ Some n → WasTaken a t n → offset a t n ≤ a.offset l) → Source nodes i m

  offset_is : (m n : NodeOf L) → m.label ≡ n.label → offset a t m ≡ offset a t n
  offset_is m n e = ap a.offset e

  module _ (nodes later : List (NodeOf L)) (sources : (i : ℕ) (m : NodeOf L) → slice_get later i ≡ Some m → Source nodes i m) (order : Order a t nodes) where
    before_at : (i j : ℕ) (m n : NodeOf L) → WasTaken a t m → IsTrue (is_node_pending n) → Source nodes i m → Source nodes j n → offset a t m ≤ offset a t n
    before_at i j m n w p (old x at s) (old y bt r) =
        let h : offset a t x ≤ offset a t y = order.before_pending i j x y at bt (s.was w) (r.pending p) in
        let e : offset a t m ≡ offset a t x = offset_is m x s.label in
        let f : offset a t n ≡ offset a t y = offset_is n y r.label in
        omega arith
    before_at i j m n w p (old x at s) (new l q e h) =
        let le : offset a t x ≤ a.offset l = h i x at (s.was w) in
        let f : offset a t m ≡ offset a t x = offset_is m x s.label in
        let g : offset a t n ≡ a.offset l = ap (λ (z : NodeOf L). offset a t z) e in
        omega arith
    before_at i j m n w p (new l q e h) o = absurd (not_was a t m (ap (λ (z : NodeOf L). z.state) e) w)

    near_at : (i j : ℕ) (m n : NodeOf L) → WasTaken a t m → IsTrue (is_taken n) → Source nodes i m → Source nodes j n → offset a t m < offset a t n + separation t
    near_at i j m n w p (old x at s) (old y bt r) =
        let h : offset a t x < offset a t y + separation t = order.near_taken i j x y at bt (s.was w) (r.taken p) in
        let e : offset a t m ≡ offset a t x = offset_is m x s.label in
        let f : offset a t n ≡ offset a t y = offset_is n y r.label in
        omega arith
    near_at i j m n w p (old x at s) (new l q e h) = absurd (not_was a t n (ap (λ (z : NodeOf L). z.state) e) (inl p))
    near_at i j m n w p (new l q e h) o = absurd (not_was a t m (ap (λ (z : NodeOf L). z.state) e) w)

    taken_at : (i : ℕ) (n : NodeOf L) → IsTrue (is_taken n) → Source nodes i n → IsTrue (is_kept n)
    taken_at i n p (old x at s) = s.kept (order.taken_kept i x at (s.taken p)) (inr p)
    taken_at i n p (new l q e h) = ap is_kept e

    pending_at : (i : ℕ) (n : NodeOf L) → IsTrue (is_node_pending n) → Source nodes i n → IsTrue (is_kept n)
    pending_at i n p (old x at s) = s.kept (order.pending_kept i x at (s.pending p)) (inl p)
    pending_at i n p (new l q e h) = ap is_kept e

    idle_at : (i : ℕ) (n : NodeOf L) → IsTrue (is_node_pending n) → Source nodes i n → n.offered ≡ 0
    idle_at i n p (old x at s) = s.offered p ∙ order.pending_idle i x at (s.pending p)
    idle_at i n p (new l q e h) = ap (λ (z : NodeOf L). z.offered) e

    dropped_at : (i : ℕ) (n : NodeOf L) (d : ℕ) → n.dropped_by ≡ Some d → Source nodes i n → n.offered ≡ 0
    dropped_at i n d g (old x at s) = s.idle d g (λ e h. order.dropped_idle i x e at h) (λ p. order.pending_idle i x at p)
    dropped_at i n d g (new l q e h) = ap (λ (z : NodeOf L). z.offered) e

    pub order_later : Order a t later
    order_later = record {
      before_pending = λ i j m n hm hn w p. before_at i j m n w p (sources i m hm) (sources j n hn);
      near_taken = λ i j m n hm hn w p. near_at i j m n w p (sources i m hm) (sources j n hn);
      taken_kept = λ i n h p. taken_at i n p (sources i n h);
      pending_kept = λ i n h p. pending_at i n p (sources i n h);
      pending_idle = λ i n h p. idle_at i n p (sources i n h);
      dropped_idle = λ i n d h g. dropped_at i n d g (sources i n h);
    }

  same_weaker : (n : NodeOf L) → Weaker n n
  same_weaker n = record { label = refl; pending = λ p. p; offered = λ p. refl; taken = λ p. p; was = λ w. w; kept = λ k p. k; idle = λ d e f g. f d e }

  -- a change of one node, which then tells no more
  weaker_changed : (k : ℕ) (f : NodeOf L → NodeOf L) (nodes : List (NodeOf L)) (n : NodeOf L) → slice_get nodes k ≡ Some n → Weaker (f n) n → Order a t nodes → Order a t (changed k f nodes)
  weaker_changed k f nodes n at weak order = order_later nodes (changed k f nodes) sources order
    where
      source_of : (i : ℕ) (m : NodeOf L) (b : Before k f nodes i m) → ((i ≡ k) × (m ≡ f b.old)) ⊎ (m ≡ b.old) → Source nodes i m
      source_of i m b (inl p) =
          let same : n ≡ b.old = same_Some n b.old (sym at ∙ (ap (λ j. slice_get nodes j) (sym p.0) ∙ b.at)) in
          old b.old b.at (subst (λ (z : NodeOf L). Weaker z b.old) (sym p.1) (subst (λ (z : NodeOf L). Weaker (f z) z) same weak))
      source_of i m b (inr q) = old b.old b.at (subst (λ (z : NodeOf L). Weaker z b.old) (sym q) (same_weaker b.old))

      sources : (i : ℕ) (m : NodeOf L) → slice_get (changed k f nodes) i ≡ Some m → Source nodes i m
      sources i m h = let b : Before k f nodes i m = before_change k f nodes i m h in source_of i m b b.is

  closed_weaker : (n : NodeOf L) (w : ℕ) → n.state ≡ TakenBy w → IsTrue (is_kept n) → Weaker (record n { state = Done }) n
  closed_weaker n w e k = record {
    label = refl;
    pending = λ p. absurd (cc);
    offered = λ p. refl;
    taken = λ p. absurd (cc);
    was = λ h. inl (ap is_taken_state e);
    kept = λ h p. h;
    idle = λ d g f h. f d g;
  }

  counted_weaker : (n : NodeOf L) (w : ℕ) → n.state ≡ TakenBy w → IsTrue (is_kept n) → Weaker (count_one n) n
  counted_weaker n w e k = record {
    label = refl;
    pending = λ p. p;
    offered = λ p. absurd (let no : is_node_pending n ≡ false = ap is_pending_state e in true_not_false p no);
    taken = λ p. p;
    was = λ h. h;
    kept = λ h p. h;
    idle = λ d g f h. absurd (let no : is_kept n ≡ false = ap is_none g in true_not_false k no);
  }

  pub taken_is : (n : NodeOf L) (w : ℕ) → n.state ≡ TakenBy w → IsTrue (is_taken n)
  taken_is n w e = ap is_taken_state e

  cond_order : (b : Bool) (x y : Outcome L) → Order a t x.state.nodes → Order a t y.state.nodes → Order a t (cond b x y).state.nodes
  cond_order true x y p q = p
  cond_order false x y p q = q

  module _ (sound : IsSoundGraph t.graph) where
    -- a Take
    module _ (s : State L) (w k : ℕ) (order : Order a t s.nodes) (least : Earliest is_node_pending (offset a t) s.nodes k)
        (near : (j : ℕ) (n : NodeOf L) → slice_get s.nodes j ≡ Some n → IsTrue (is_taken n) → offset a t least.item < offset a t n + separation t) where
      data New (i : ℕ) (m : NodeOf L) : Type 0 where
        this : m.label ≡ least.item.label → m.dropped_by ≡ least.item.dropped_by → m.offered ≡ least.item.offered → m.state ≡ TakenBy w → New i m
        other : slice_get s.nodes i ≡ Some m → New i m

      new_of : (i : ℕ) (m : NodeOf L) (b : Before k (λ n. record n { state = TakenBy w }) s.nodes i m) → ((i ≡ k) × (m ≡ record b.old { state = TakenBy w })) ⊎ (m ≡ b.old) → New i m
      new_of i m b (inl p) =
          let same : b.old ≡ least.item = same_Some b.old least.item (sym b.at ∙ (ap (λ j. slice_get s.nodes j) p.0 ∙ least.at)) in
          this (ap (λ (z : NodeOf L). z.label) p.1 ∙ ap (λ (z : NodeOf L). z.label) same)
          (ap (λ (z : NodeOf L). z.dropped_by) p.1 ∙ ap (λ (z : NodeOf L). z.dropped_by) same)
          (ap (λ (z : NodeOf L). z.offered) p.1 ∙ ap (λ (z : NodeOf L). z.offered) same) (ap (λ (z : NodeOf L). z.state) p.1)
      new_of i m b (inr q) = other (b.at ∙ ap (λ z. Some z) (sym q))

      new_at : (i : ℕ) (m : NodeOf L) → slice_get (changed k (λ n. record n { state = TakenBy w }) s.nodes) i ≡ Some m → New i m
      new_at i m h = let b : Before k (λ (n : NodeOf L). record n { state = TakenBy w }) s.nodes i m = before_change k (λ n. record n { state = TakenBy w }) s.nodes i m h in new_of i m b b.is

      not_pending : (n : NodeOf L) → n.state ≡ TakenBy w → IsTrue (is_node_pending n) → ⊥
      not_pending n e p = absurd (let no : is_node_pending n ≡ false = ap is_pending_state e in true_not_false p no)

      take_before : (i j : ℕ) (m n : NodeOf L) → WasTaken a t m → IsTrue (is_node_pending n) → New i m → New j n → offset a t m ≤ offset a t n
      take_before i j m n h p (this e d f g) (this e' d' f' g') = absurd (not_pending n g' p)
      take_before i j m n h p (this e d f g) (other bt) =
          let le : offset a t least.item ≤ offset a t n = least.least j n bt p in
          let q : offset a t m ≡ offset a t least.item = ap a.offset e in
          omega arith
      take_before i j m n h p (other at) (this e d f g) = absurd (not_pending n g p)
      take_before i j m n h p (other at) (other bt) = order.before_pending i j m n at bt h p

      take_near : (i j : ℕ) (m n : NodeOf L) → WasTaken a t m → IsTrue (is_taken n) → New i m → New j n → offset a t m < offset a t n + separation t
      take_near i j m n h p (this e d f g) (this e' d' f' g') =
          let one : 1 ≤ separation t = separation_some t sound in
          let q : offset a t m ≡ offset a t least.item = ap a.offset e in
          let r : offset a t n ≡ offset a t least.item = ap a.offset e' in
          omega arith
      take_near i j m n h p (this e d f g) (other bt) =
          let lt : offset a t least.item < offset a t n + separation t = near j n bt p in
          let q : offset a t m ≡ offset a t least.item = ap a.offset e in
          omega arith
      take_near i j m n h p (other at) (this e d f g) =
          let one : 1 ≤ separation t = separation_some t sound in
          let le : offset a t m ≤ offset a t least.item = order.before_pending i k m least.item at least.at h least.passes in
          let r : offset a t n ≡ offset a t least.item = ap a.offset e in
          omega arith
      take_near i j m n h p (other at) (other bt) = order.near_taken i j m n at bt h p

      take_kept : (i : ℕ) (n : NodeOf L) → IsTrue (is_taken n) → New i n → IsTrue (is_kept n)
      take_kept i n p (this e d f g) = ap is_none d ∙ order.pending_kept k least.item least.at least.passes
      take_kept i n p (other at) = order.taken_kept i n at p

      take_pending : (i : ℕ) (n : NodeOf L) → IsTrue (is_node_pending n) → New i n → IsTrue (is_kept n)
      take_pending i n p (this e d f g) = absurd (not_pending n g p)
      take_pending i n p (other at) = order.pending_kept i n at p

      take_idle : (i : ℕ) (n : NodeOf L) → IsTrue (is_node_pending n) → New i n → n.offered ≡ 0
      take_idle i n p (this e d f g) = absurd (not_pending n g p)
      take_idle i n p (other at) = order.pending_idle i n at p

      take_dropped : (i : ℕ) (n : NodeOf L) (d : ℕ) → n.dropped_by ≡ Some d → New i n → n.offered ≡ 0
      take_dropped i n d g (this e b f h) = f ∙ order.dropped_idle k least.item d least.at (sym b ∙ g)
      take_dropped i n d g (other at) = order.dropped_idle i n d at g

      takes_order : Order a t (takes a t s w k).state.nodes
      takes_order = record {
        before_pending = λ i j m n hm hn h p. take_before i j m n h p (new_at i m hm) (new_at j n hn);
        near_taken = λ i j m n hm hn h p. take_near i j m n h p (new_at i m hm) (new_at j n hn);
        taken_kept = λ i n h p. take_kept i n p (new_at i n h);
        pending_kept = λ i n h p. take_pending i n p (new_at i n h);
        pending_idle = λ i n h p. take_idle i n p (new_at i n h);
        dropped_idle = λ i n d h g. take_dropped i n d g (new_at i n h);
      }

    near_none : (s : State L) (o : ℕ) → holder a t s.nodes ≡ None → (j : ℕ) (n : NodeOf L) → slice_get s.nodes j ≡ Some n → IsTrue (is_taken n) → o < offset a t n + separation t
    near_none s o e j n at p = absurd (let no : is_taken n ≡ false = none_earliest is_taken (offset a t) s.nodes e j n at in true_not_false p no)

    near_some : (s : State L) (k h : ℕ) (x : NodeOf L) → slice_get s.nodes k ≡ Some x → holder a t s.nodes ≡ Some h
        → nat_lt (offset_at a t s.nodes k) (offset_at a t s.nodes h + separation t) ≡ true → (j : ℕ) (n : NodeOf L) → slice_get s.nodes j ≡ Some n → IsTrue (is_taken n)
        → offset a t x < offset a t n + separation t
    near_some s k h x at e lt j n bt p =
        let f : Earliest is_taken (offset a t) s.nodes h = found_earliest is_taken (offset a t) s.nodes h e in
        let less : offset_at a t s.nodes k < offset_at a t s.nodes h + separation t = less_is (offset_at a t s.nodes k) (offset_at a t s.nodes h + separation t) lt in
        let k_is : offset_at a t s.nodes k ≡ offset a t x = ap (λ o. offset_in a t o) at in
        let h_is : offset_at a t s.nodes h ≡ offset a t f.item = ap (λ o. offset_in a t o) f.at in
        let le : offset a t f.item ≤ offset a t n = f.least j n bt p in
        omega arith

    taken_order : (s : State L) (w : ℕ) → Order a t s.nodes → (p o : Option ℕ) → next a t s.nodes ≡ p → holder a t s.nodes ≡ o → Order a t (taken a t s w p o).state.nodes
    taken_order s w order None None e f = order
    taken_order s w order None (Some h) e f = cond_order (is_full a t s) _ _ order order
    taken_order s w order (Some k) None e f =
        let x : Earliest is_node_pending (offset a t) s.nodes k = found_earliest is_node_pending (offset a t) s.nodes k e in
        cond_order (is_full a t s) _ _ order (takes_order s w k order x (near_none s (offset a t x.item) f))
    taken_order s w order (Some k) (Some h) e f =
        let x : Earliest is_node_pending (offset a t) s.nodes k = found_earliest is_node_pending (offset a t) s.nodes k e in
        cond_order (is_full a t s) _ _ order (by_test (nat_lt (offset_at a t s.nodes k) (offset_at a t s.nodes h + separation t)) refl)
      where
        by_test : (b : Bool) → nat_lt (offset_at a t s.nodes k) (offset_at a t s.nodes h + separation t) ≡ b → Order a t (cond b (takes a t s w k) (unchanged a t s (Busy h))).state.nodes
        by_test false g = order
        by_test true g =
            let x : Earliest is_node_pending (offset a t) s.nodes k = found_earliest is_node_pending (offset a t) s.nodes k e in
            takes_order s w k order x (near_some s k h x.item x.at f g)

    -- an Offer that adds
    module _ (laws : Laws a) (nodes : List (NodeOf L)) (id : ℕ) (x : NodeOf L) (at : slice_get nodes id ≡ Some x) (held : IsTrue (is_taken x)) (l : L)
        (later : offset a t x + separation t ≤ a.offset l) (order : Order a t nodes) where
      no_sooner : (j : ℕ) (n : NodeOf L) → slice_get nodes j ≡ Some n → WasTaken a t n → offset a t n ≤ a.offset l
      no_sooner j n bt w = let h : offset a t n < offset a t x + separation t = order.near_taken j id n x bt at w held in omega arith

      not_dominated : (j : ℕ) (n : NodeOf L) → slice_get nodes j ≡ Some n → IsTrue (a.dominates l n.label) → WasTaken a t n → ⊥
      not_dominated j n bt d w = absurd (
          let h : offset a t n < offset a t x + separation t = order.near_taken j id n x bt at w held in
          let le : a.offset l ≤ offset a t n = laws.no_later l n.label d in
          omega arith)

      pub only_pending : (j : ℕ) (n : NodeOf L) → slice_get nodes j ≡ Some n → IsTrue (is_kept n) → IsTrue (a.dominates l n.label) → (c : NodeState) → n.state ≡ c → IsTrue (is_node_pending n)
      only_pending j n bt k d Pending e = ap is_pending_state e
      only_pending j n bt k d (TakenBy w) e = absurd (not_dominated j n bt d (inl (ap is_taken_state e)))
      only_pending j n bt k d Done e = absurd (not_dominated j n bt d (inr (e, k)))

      gone_weaker : (j : ℕ) (n : NodeOf L) (number : ℕ) → slice_get nodes j ≡ Some n → IsTrue (is_kept n) → IsTrue (a.dominates l n.label)
          → Weaker (record n { dropped_by = Some number; state = Done }) n
      gone_weaker j n number bt k d = record {
        label = refl;
        pending = λ p. absurd (cc);
        offered = λ p. refl;
        taken = λ p. absurd (cc);
        was = gone_was;
        kept = gone_kept;
        idle = λ e g f h. h (only_pending j n bt k d n.state refl);
      }
        where
          gone_was : WasTaken a t (record n { dropped_by = Some number; state = Done }) → WasTaken a t n
          gone_was (inl h) = absurd (cc)
          gone_was (inr h) = absurd (let no : false ≡ true = h.1 in cc)

          gone_kept : IsTrue (is_kept n)
              → (IsTrue (is_node_pending (record n { dropped_by = Some number; state = Done })) ⊎ IsTrue (is_taken (record n { dropped_by = Some number; state = Done })))
              → IsTrue (is_kept (record n { dropped_by = Some number; state = Done }))
          gone_kept h (inl p) = absurd (let no : false ≡ true = p in cc)
          gone_kept h (inr p) = absurd (let no : false ≡ true = p in cc)

      drop_weaker : (j : ℕ) (n : NodeOf L) (number : ℕ) (b c : Bool) → slice_get nodes j ≡ Some n → is_kept n ≡ b → a.dominates l n.label ≡ c
          → Weaker (cond (b && c) (record n { dropped_by = Some number; state = Done }) n) n
      drop_weaker j n number true true bt p q = gone_weaker j n number bt p q
      drop_weaker j n number true false bt p q = same_weaker n
      drop_weaker j n number false c bt p q = same_weaker n

      added_source : (i : ℕ) (m : NodeOf L) → Pushed (drop_by a t l (length nodes)) nodes (fresh l (Some id)) i m → Source nodes i m
      added_source i m (earlier y bt is lt) = old y bt (subst (λ (z : NodeOf L). Weaker z y) (sym is) (drop_weaker i y (length nodes) (is_kept y) (a.dominates l y.label) bt refl refl))
      added_source i m (last e is) = new l (Some id) is no_sooner

      pub added_order : Order a t (added a t nodes id l)
      added_order = order_later nodes (added a t nodes id l) (λ i m h. added_source i m (before_push (drop_by a t l (length nodes)) nodes (fresh l (Some id)) i m h)) order

    -- the node's next extension comes no sooner than the least separation after it
    pub extended_later : (laws : Laws a) (n : NodeOf L) (k : ℕ) → IsWalkLabel a t n.label → k < out_degree t.graph (a.vertex n.label) → offset a t n + separation t ≤ a.offset (extended a t n.label k)
    extended_later laws n k walk lt =
        let e = edge_of t.graph (a.vertex n.label) k in
        let within : a.vertex n.label < length t.graph.vertices = subst (λ (x : ℕ). x < length t.graph.vertices) (sym (walk_vertex a laws t walk.0 walk.1 n.label walk.2))
        (walk_within a laws t sound walk.0 walk.1 n.label walk.2) in
        let le : separation t ≤ e.sep = separation_le t sound (a.vertex n.label) k within lt in
        let is : a.offset (extended a t n.label k) ≡ a.offset n.label + e.sep = laws.extended_offset n.label e.sep e.to (vertex_of t.graph e.to).wcet in
        omega (arith, le, is)

    module _ (laws : Laws a) (s : State L) (e : Entry) (w id : ℕ) (n : NodeOf L) (at : slice_get s.nodes id ≡ Some n) (held : n.state ≡ TakenBy w) (order : Order a t s.nodes) where
      pub counted_order : Order a t (changed id count_one s.nodes)
      counted_order = weaker_changed id count_one s.nodes n at (counted_weaker n w held (order.taken_kept id n at (taken_is n w held))) order

      pub counted_at : slice_get (changed id count_one s.nodes) id ≡ Some (count_one n)
      counted_at = changed_at id count_one s.nodes n at

      compared_order : (l : L) (o : Option ℕ) → offset a t n + separation t ≤ a.offset l → Order a t (compared a t s e (changed id count_one s.nodes) id l o).state.nodes
      compared_order l None h = added_order laws (changed id count_one s.nodes) id (count_one n) counted_at (taken_is n w held) l h counted_order
      compared_order l (Some k) h = counted_order

      offered_order : (l : L) → offset a t n + separation t ≤ a.offset l → Order a t (offered a t s e id l).state.nodes
      offered_order l h = cond_order (in_range a t l) _ _ (compared_order l (first (dominating a t l) (changed id count_one s.nodes)) h) counted_order

    offered_at_order : (laws : Laws a) (s : State L) (e : Entry) (w id k : ℕ) (m : NodeOf L) (o : Option (NodeOf L)) → slice_get s.nodes id ≡ o → Facts a t s.nodes
        → Order a t s.nodes → slice_get s.nodes id ≡ Some m → m.state ≡ TakenBy w → k < out_degree t.graph (a.vertex m.label) → Order a t (offered_at a t s e id k o).state.nodes
    offered_at_order laws s e w id k m None h facts order at held lt = order
    offered_at_order laws s e w id k m (Some n) h facts order at held lt =
        let same : m ≡ n = same_Some m n (sym at ∙ h) in
        let held_n : n.state ≡ TakenBy w = ap (λ (z : NodeOf L). z.state) (sym same) ∙ held in
        let less : k < out_degree t.graph (a.vertex n.label) = subst (λ (z : NodeOf L). k < out_degree t.graph (a.vertex z.label)) same lt in
        offered_order laws s e w id n h held_n order (extended a t n.label k) (extended_later laws n k (facts.walks id n h) less)

    pub step_order : (laws : Laws a) (s : State L) (w : ℕ) (step : TableStep) → Facts a t s.nodes → Order a t s.nodes → CanStep a t s w step → Order a t (step_of a t s w step).state.nodes
    step_order laws s w Take facts order can = taken_order s w order (next a t s.nodes) (holder a t s.nodes) refl refl
    step_order laws s w (Offer id k) facts order can = cond_order (is_full a t s) _ _ order
        (offered_at_order laws s (record { worker = w; step = Offer id k }) w id k can.0 (slice_get s.nodes id) refl facts order can.1.at can.1.held can.3)
    step_order laws s w (Close id) facts order can =
        cond_order (is_full a t s) _ _ order
        (weaker_changed id (λ n. record n { state = Done }) s.nodes can.0 can.1.at (closed_weaker can.0 w can.1.held (order.taken_kept id can.0 can.1.at (taken_is can.0 w can.1.held))) order)
