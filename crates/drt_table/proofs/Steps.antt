-- Each step keeps the facts.
use Rattle.std.proofs.Common.{◌≡◌, ℕ, suc, zero, ◌+◌, ◌<◌, ◌≤◌, ◌⊎◌, Bool, true, false, cond, Option, Some, None, List, [], ◌∷◌, ◌++◌, length, map, refl, sym, ap, ◌∙◌, subst, inl, inr, arith}
use Rattle.std.specs.Prelude.{slice_get, IsTrue, is_none, ◌&&◌, nat_lt}
use Rattle.std.proofs.lemmas.Option.{same_Some, slice_get_within}
use Rattle.drt_label.specs.Algebra.{Algebra, Laws}
use Rattle.drt_model.specs.Digraph.{out_degree}
use Rattle.drt_table.specs.Node.{NodeOf, is_kept, fresh}
use Rattle.drt_table.specs.declared.node.NodeState.TheVariants.{Taken as TakenBy, Done}
use Rattle.drt_table.specs.declared.step.TableStep.{TableStep}
use Rattle.drt_table.specs.declared.step.TableStep.TheVariants.{Take, Offer, Close}
use Rattle.drt_table.specs.declared.step.TableReply.TheVariants.{Busy, OutOfRange}
use Rattle.drt_table.specs.declared.step.Entry.{Entry}
use Rattle.drt_table.specs.Machine.{Setting, separation, State, Outcome, in_range, extended, is_full, unchanged, logged, offset_at, next, holder, takes, taken, drop_by, dominating, added, compared, counted, offered, offered_at, step_of, CanStep}
use Rattle.drt_worklist.specs.Places.{first, changed}
use Rattle.drt_table.specs.Walk.{IsWalkLabel}
use Rattle.drt_table.specs.Cover.{IsCovered}
use Rattle.drt_table.specs.Facts.{Facts, IsChild}
use Rattle.drt_worklist.proofs.Lists.{Before, before_change, After, after_change, Found, found, none_found, length-changed}
use Rattle.drt_worklist.proofs.Views.{after_push}
use Rattle.drt_table.proofs.Earliest.{and_left, and_right, both}
use Rattle.drt_table.proofs.Walks.{walk_more}
use Rattle.drt_table.proofs.Changes.{SameShape, KeepsShape, shape_of, change_keeps}
use Rattle.drt_table.proofs.Adding.{true_not_false, IsUndominated, add_keeps, covers_itself, Placed, placed}

-- one more offer
abbrev pub count_one : {L : Type 0} → NodeOf L → NodeOf L
count_one n = record n { offered = n.offered + 1 }

count_keeps : {L : Type 0} → KeepsShape {L = L} count_one
count_keeps = record { shape = λ n. record { label = refl; dropped_by = refl; parent = refl } }

change-push : {A : Type 0} (f g : A → A) → ((x : A) → g (f x) ≡ f (g x)) → (k : ℕ) (xs : List A) (z : A) → k < length xs → map g (changed k f xs) ++ z ∷ [] ≡ changed k f (map g xs ++ z ∷ [])
change-push f g e k [] z lt = absurd (let l : k < 0 = lt in omega arith)
change-push f g e zero (x ∷ xs) z lt = ap (λ y. y ∷ (map g xs ++ z ∷ [])) (e x)
change-push f g e (suc k) (x ∷ xs) z lt = ap (λ ys. g x ∷ ys) (change-push f g e k xs z (omega arith))

module _ {L : Type 0} (a : Algebra L) (laws : Laws a) (t : Setting) where
  commute_at : (l : L) (number : ℕ) (n : NodeOf L) (b : Bool) → cond b (record (count_one n) { dropped_by = Some number; state = Done }) (count_one n) ≡ count_one
      (cond b (record n { dropped_by = Some number; state = Done }) n)
  commute_at l number n true = refl
  commute_at l number n false = refl

  commute : (l : L) (number : ℕ) (n : NodeOf L) → drop_by a t l number (count_one n) ≡ count_one (drop_by a t l number n)
  commute l number n = commute_at l number n (is_kept n && a.dominates l n.label)

  added-counted : (id : ℕ) (nodes : List (NodeOf L)) (l : L) → id < length nodes → added a t (changed id count_one nodes) id l ≡ changed id count_one (added a t nodes id l)
  added-counted id nodes l lt =
      ap (λ m. map (drop_by a t l m) (changed id count_one nodes) ++ fresh l (Some id) ∷ []) (length-changed id count_one nodes)
      ∙ change-push count_one (drop_by a t l (length nodes)) (commute l (length nodes)) id nodes (fresh l (Some id)) lt

  cond_keeps : (b : Bool) (x y : Outcome L) → Facts a t x.state.nodes → Facts a t y.state.nodes → Facts a t (cond b x y).state.nodes
  cond_keeps true x y f g = f
  cond_keeps false x y f g = g

  takes_keeps : (s : State L) (w k : ℕ) → Facts a t s.nodes → Facts a t (takes a t s w k).state.nodes
  takes_keeps s w k facts =
      change_keeps a t k (λ n. record n { state = TakenBy w }) s.nodes
      (record { shape = λ n. record { label = refl; dropped_by = refl; parent = refl } })
      (record {
        offered = λ n h. facts.offered k n h;
        covered = λ n e h lt r. facts.covered k n e h lt r;
        done = λ n h kept e. absurd (cc);
      })
      facts

  taken_keeps : (s : State L) (w : ℕ) → Facts a t s.nodes → (p o : Option ℕ) → Facts a t (taken a t s w p o).state.nodes
  taken_keeps s w facts None None = facts
  taken_keeps s w facts None (Some h) = cond_keeps (is_full a t s) _ _ facts facts
  taken_keeps s w facts (Some k) None = cond_keeps (is_full a t s) _ _ facts (takes_keeps s w k facts)
  taken_keeps s w facts (Some k) (Some h) =
      cond_keeps (is_full a t s) _ _ facts
      (cond_keeps (nat_lt (offset_at a t s.nodes k) (offset_at a t s.nodes h + separation t)) (takes a t s w k) (unchanged a t s (Busy h)) (takes_keeps s w k facts) facts)

  close_keeps : (s : State L) (w id : ℕ) → Facts a t s.nodes → CanStep a t s w (Close id) → Facts a t (step_of a t s w (Close id)).state.nodes
  close_keeps s w id facts can =
      cond_keeps (is_full a t s) _ _ facts
      (change_keeps a t id (λ n. record n { state = Done }) s.nodes
      (record { shape = λ n. record { label = refl; dropped_by = refl; parent = refl } })
      (record {
        offered = λ n h. facts.offered id n h;
        covered = λ n e h lt r. facts.covered id n e h lt r;
        done = λ n h kept e.
            let same : can.0 ≡ n = same_Some can.0 n (sym can.1.at ∙ h) in
            subst (λ (m : NodeOf L). m.offered ≡ out_degree t.graph (a.vertex m.label)) same can.2;
      })
      facts)

  -- an offer by the node id of its next edge
  module _ (nodes : List (NodeOf L)) (id : ℕ) (n : NodeOf L) (at : slice_get nodes id ≡ Some n) (more : n.offered < out_degree t.graph (a.vertex n.label)) (facts : Facts a t nodes) where
    same_node : (m : NodeOf L) → slice_get nodes id ≡ Some m → n ≡ m
    same_node m h = same_Some n m (sym at ∙ h)

    covered_next : (m : NodeOf L) (e : ℕ) → (IsTrue (in_range a t (extended a t n.label n.offered)) → IsCovered a t nodes (extended a t n.label n.offered))
        → slice_get nodes id ≡ Some m → e < m.offered + 1 → IsTrue (in_range a t (extended a t m.label e)) → (e < m.offered) ⊎ (e ≡ m.offered) → IsCovered a t nodes (extended a t m.label e)
    covered_next m e next h lt r (inl less) = facts.covered id m e h less r
    covered_next m e next h lt r (inr eq) =
        let label_is : extended a t n.label n.offered ≡ extended a t m.label e = ap (λ (z : NodeOf L). extended a t z.label z.offered) (same_node m h) ∙ ap (λ i. extended a t m.label i) (sym eq) in
        subst (λ (l : L). IsCovered a t nodes l) label_is (next (subst (λ (l : L). IsTrue (in_range a t l)) (sym label_is) r))

    -- where the label is out of range or covered
    pub count_offer : (IsTrue (in_range a t (extended a t n.label n.offered)) → IsCovered a t nodes (extended a t n.label n.offered)) → Facts a t (changed id count_one nodes)
    count_offer next =
        change_keeps a t id count_one nodes count_keeps
        (record {
          offered = λ m h. subst (λ (z : NodeOf L). z.offered + 1 ≤ out_degree t.graph (a.vertex z.label)) (same_node m h) (omega arith);
          covered = λ m e h lt r. covered_next m e next h lt r (let split : (e < m.offered) ⊎ (e ≡ m.offered) = grind arith in split);
          done = λ m h kept e.
              absurd (let full : m.offered ≡ out_degree t.graph (a.vertex m.label) = facts.done id m (record { at = h; kept = kept }) e in
              let less : m.offered < out_degree t.graph (a.vertex m.label) = subst (λ (z : NodeOf L). z.offered < out_degree t.graph (a.vertex z.label)) (same_node m h) more in
              omega arith);
        })
        facts

-- an offer by the node id of its next edge, where the label is in range and no kept node dominates it
module _ {L : Type 0} (a : Algebra L) (laws : Laws a) (t : Setting) (nodes : List (NodeOf L)) (id : ℕ) (n : NodeOf L) (l : L) where
  pub undominated : first (dominating a t l) (changed id count_one nodes) ≡ None → IsUndominated a laws t nodes id l
  undominated none = record {
    no = λ i m h kept dom.
        let b : After id count_one nodes i m = after_change id count_one nodes i m h in
        let s : SameShape b.new m = shape_of count_one count_keeps i id b.new m b.is in
        true_not_false (both (is_kept b.new) (a.dominates b.new.label l) (ap is_none s.dropped_by ∙ kept) (ap (λ x. a.dominates x l) s.label ∙ dom))
        (none_found (dominating a t l) (changed id count_one nodes) none i b.new b.at);
  }

  covered_by : (k : ℕ) → first (dominating a t l) (changed id count_one nodes) ≡ Some k → IsCovered a t nodes l
  covered_by k e =
      let f : Found (dominating a t l) (changed id count_one nodes) k = found (dominating a t l) (changed id count_one nodes) k e in
      let b : Before id count_one nodes k f.item = before_change id count_one nodes k f.item f.at in
      let s : SameShape f.item b.old = shape_of count_one count_keeps k id f.item b.old b.is in
      record {
        by = k;
        node = b.old;
        kept = record { at = b.at; kept = ap is_none (sym s.dropped_by) ∙ and_left (is_kept f.item) (a.dominates f.item.label l) f.passes };
        dominates = ap (λ x. a.dominates x l) (sym s.label) ∙ and_right (is_kept f.item) (a.dominates f.item.label l) f.passes;
      }

  offer_added : slice_get nodes id ≡ Some n → n.offered < out_degree t.graph (a.vertex n.label) → Facts a t nodes → l ≡ extended a t n.label n.offered → IsWalkLabel a t l
      → IsUndominated a laws t nodes id l → Facts a t (added a t (changed id count_one nodes) id l)
  offer_added at more facts l_is walk none =
      let m : NodeOf L = drop_by a t l (length nodes) n in
      let at_m : slice_get (added a t nodes id l) id ≡ Some m = after_push (drop_by a t l (length nodes)) nodes (fresh l (Some id)) id n at in
      let p : Placed a laws t nodes id l id n m = placed a laws t nodes id l id n m at at_m in
      let same_label : l ≡ extended a t m.label m.offered = l_is ∙ (ap (λ x. extended a t x n.offered) (sym p.label) ∙ ap (λ i. extended a t m.label i) (sym p.offered)) in
      let more_m : m.offered < out_degree t.graph (a.vertex m.label) =
      subst (λ (x : L). m.offered < out_degree t.graph (a.vertex x)) (sym p.label) (subst (λ (i : ℕ). i < out_degree t.graph (a.vertex n.label)) (sym p.offered) more) in
      let child : IsChild a t nodes (length nodes) (fresh l (Some id)) id = record { parent = n; edge = n.offered; at = at; earlier = slice_get_within nodes id n at; within = more; label = l_is } in
      let now : Facts a t (added a t nodes id l) = add_keeps a laws t nodes id l facts walk none child in
      subst (λ (xs : List (NodeOf L)). Facts a t xs) (sym (added-counted a laws t id nodes l (slice_get_within nodes id n at)))
      (count_offer a laws t (added a t nodes id l) id m at_m more_m now
      (λ r. subst (λ (x : L). IsCovered a t (added a t nodes id l) x) same_label (covers_itself a laws t nodes id l)))

module _ {L : Type 0} (a : Algebra L) (laws : Laws a) (t : Setting) (s : State L) (e : Entry) (id : ℕ) (n : NodeOf L) (at : slice_get s.nodes id ≡ Some n)
    (more : n.offered < out_degree t.graph (a.vertex n.label)) (facts : Facts a t s.nodes) where
  compared_keeps : (o : Option ℕ) → IsTrue (in_range a t (extended a t n.label n.offered))
      → first (dominating a t (extended a t n.label n.offered)) (changed id count_one s.nodes) ≡ o
      → Facts a t (compared a t s e (changed id count_one s.nodes) id (extended a t n.label n.offered) o).state.nodes
  compared_keeps None r h = offer_added a laws t s.nodes id n (extended a t n.label n.offered) at more facts refl
      (walk_more a laws t n.label n.offered (facts.walks id n at) more r) (undominated a laws t s.nodes id n (extended a t n.label n.offered) h)
  compared_keeps (Some k) r h = count_offer a laws t s.nodes id n at more facts (λ _. covered_by a laws t s.nodes id n (extended a t n.label n.offered) k h)

  ranged_keeps : (b : Bool) → in_range a t (extended a t n.label n.offered) ≡ b
      → Facts a t (cond b
      (compared a t s e (counted a t id s.nodes) id (extended a t n.label n.offered) (first (dominating a t (extended a t n.label n.offered)) (counted a t id s.nodes)))
      (logged a t s e (counted a t id s.nodes) OutOfRange)).state.nodes
  ranged_keeps true r = compared_keeps (first (dominating a t (extended a t n.label n.offered)) (changed id count_one s.nodes)) r refl
  ranged_keeps false r = count_offer a laws t s.nodes id n at more facts (λ h. absurd (true_not_false h r))

  offered_keeps : Facts a t (offered a t s e id (extended a t n.label n.offered)).state.nodes
  offered_keeps = ranged_keeps (in_range a t (extended a t n.label n.offered)) refl

module _ {L : Type 0} (a : Algebra L) (laws : Laws a) (t : Setting) where
  offered_at_keeps : (s : State L) (e : Entry) (id k : ℕ) (m : NodeOf L) (o : Option (NodeOf L)) → slice_get s.nodes id ≡ o → Facts a t s.nodes
      → slice_get s.nodes id ≡ Some m → k ≡ m.offered → k < out_degree t.graph (a.vertex m.label) → Facts a t (offered_at a t s e id k o).state.nodes
  offered_at_keeps s e id k m None h facts at k_is lt = facts
  offered_at_keeps s e id k m (Some n) h facts at k_is lt =
      let same : m ≡ n = same_Some m n (sym at ∙ h) in
      let is : n.offered ≡ k = sym (k_is ∙ ap (λ (x : NodeOf L). x.offered) same) in
      let more : n.offered < out_degree t.graph (a.vertex n.label) = subst (λ (x : NodeOf L). n.offered < out_degree t.graph (a.vertex x.label)) same
      (subst (λ (i : ℕ). i < out_degree t.graph (a.vertex m.label)) (sym is) lt) in
      subst (λ (i : ℕ). Facts a t (offered a t s e id (extended a t n.label i)).state.nodes) is (offered_keeps a laws t s e id n h more facts)

  pub step_keeps : (s : State L) (w : ℕ) (step : TableStep) → Facts a t s.nodes → CanStep a t s w step → Facts a t (step_of a t s w step).state.nodes
  step_keeps s w Take facts can = taken_keeps a laws t s w facts (next a t s.nodes) (holder a t s.nodes)
  step_keeps s w (Offer id k) facts can = cond_keeps a laws t (is_full a t s) _ _ facts
      (offered_at_keeps s (record { worker = w; step = Offer id k }) id k can.0 (slice_get s.nodes id) refl facts can.1.at can.2 can.3)
  step_keeps s w (Close id) facts can = close_keeps a laws t s w id facts can
