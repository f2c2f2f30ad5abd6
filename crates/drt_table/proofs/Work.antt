-- Each step keeps the bounds on the work.
use Rattle.std.proofs.Common.{◌≡◌, ℕ, suc, zero, ◌+◌, ◌<◌, ◌≤◌, ◌⊎◌, Bool, true, false, cond, Option, Some, None, List, [], ◌∷◌, ◌++◌, length, map, refl, sym, ap, ◌∙◌, subst, inl, inr, arith, length-append}
use Rattle.std.specs.Prelude.{slice_get, IsTrue, ◌&&◌, nat_lt}
use Rattle.std.proofs.lemmas.Option.{none-some, same_Some}
use Rattle.drt_label.specs.Algebra.{Algebra, Laws}
use Rattle.drt_model.specs.Digraph.{IsSoundGraph, out_degree}
use Rattle.drt_table.specs.Node.{NodeOf, is_kept, is_node_pending, fresh}
use Rattle.drt_table.specs.declared.node.NodeState.TheVariants.{Taken as TakenBy, Done}
use Rattle.drt_table.specs.declared.step.TableStep.{TableStep}
use Rattle.drt_table.specs.declared.step.TableStep.TheVariants.{Take, Offer, Close}
use Rattle.drt_table.specs.declared.step.TableReply.{TableReply}
use Rattle.drt_table.specs.declared.step.TableReply.TheVariants.{Taken, Busy, Added, Dominated, OutOfRange, Closed}
use Rattle.drt_table.specs.declared.step.Entry.{Entry}
use Rattle.drt_table.specs.Machine.{Setting, State, Outcome, opening_label, in_range, extended, is_full, unchanged, logged, offset, offset_at, separation, next, holder, takes, taken, drop_by, dominating, added, compared, offered, offered_at, step_of, CanStep, opening_nodes, opening_state, after, CanEnter, replay, IsRun}
use Rattle.drt_worklist.specs.Places.{first, changed, total}
use Rattle.drt_table.specs.Cover.{IsCovered}
use Rattle.drt_table.specs.Facts.{Facts, Order}
use Rattle.drt_worklist.proofs.Runs.{run_keeps}
use Rattle.drt_table.specs.Work.{state_entries, node_entries, IsBounded}
use Rattle.drt_worklist.proofs.Lists.{Before, before_change}
use Rattle.drt_worklist.proofs.Views.{Pushed, earlier, last, before_push}
use Rattle.drt_table.proofs.Opening.{opening_facts, opening_order, distinct}
use Rattle.drt_table.proofs.Adding.{IsUndominated}
use Rattle.drt_table.proofs.Steps.{count_one, step_keeps, undominated}
use Rattle.drt_table.proofs.Earliest.{Earliest, found_earliest}
use Rattle.drt_table.proofs.Ordering.{pending_state, taken_is, only_pending, extended_later, counted_order, counted_at, step_order}
use Rattle.drt_table.proofs.Finished.{node_covered}

-- sums
sum-changed : {A : Type 0} (f : A → ℕ) (g : A → A) (k : ℕ) (xs : List A) (x : A) → slice_get xs k ≡ Some x → f (g x) ≡ f x + 1 → total f (changed k g xs) ≡ total f xs + 1
sum-changed f g k [] x at e = absurd (none-some x at)
sum-changed f g zero (z ∷ xs) x at e = let same : f (g z) ≡ f z + 1 = subst (λ y. f (g y) ≡ f y + 1) (sym (same_Some z x at)) e in omega arith
sum-changed f g (suc k) (z ∷ xs) x at e = let rest : total f (changed k g xs) ≡ total f xs + 1 = sum-changed f g k xs x at e in omega arith

sum-pushed : {A : Type 0} (f : A → ℕ) (g : A → A) (xs : List A) (z : A) → ((i : ℕ) (x : A) → slice_get xs i ≡ Some x → f (g x) ≡ f x) → f z ≡ 0 → total f (map g xs ++ z ∷ []) ≡ total f xs
sum-pushed f g [] z h e = omega arith
sum-pushed f g (x ∷ xs) z h e = let here : f (g x) ≡ f x = h 0 x refl in let rest : total f (map g xs ++ z ∷ []) ≡ total f xs = sum-pushed f g xs z (λ i y at. h (suc i) y at) e in omega arith

-- the entries of a kept node
pub kept_entries : {L : Type 0} (n : NodeOf L) → IsTrue (is_kept n) → node_entries n ≡ n.offered + state_entries n.state
kept_entries n k = ap (λ b. cond b (n.offered + state_entries n.state) 0) k

one_more : {L : Type 0} (g : NodeOf L → NodeOf L) (n : NodeOf L) → IsTrue (is_kept n) → IsTrue (is_kept (g n))
    → (g n).offered + state_entries (g n).state ≡ n.offered + state_entries n.state + 1 → node_entries (g n) ≡ node_entries n + 1
one_more g n k j e = let p = kept_entries n k in let q = kept_entries (g n) j in omega (arith, p, q, e)

-- no label twice
pub record AreDistinct {L : Type 0} (nodes : List (NodeOf L)) : Type 0 where
  pub once : (i j : ℕ) (m n : NodeOf L) → slice_get nodes i ≡ Some m → slice_get nodes j ≡ Some n → m.label ≡ n.label → i ≡ j

distinct_changed : {L : Type 0} (k : ℕ) (f : NodeOf L → NodeOf L) (nodes : List (NodeOf L)) → ((n : NodeOf L) → (f n).label ≡ n.label) → AreDistinct nodes → AreDistinct (changed k f nodes)
distinct_changed {L} k f nodes keeps d = record {
  once = λ i j m n hm hn e.
      let b : Before k f nodes i m = before_change k f nodes i m hm in
      let c : Before k f nodes j n = before_change k f nodes j n hn in
      d.once i j b.old c.old b.at c.at (sym (old_label i m b b.is) ∙ (e ∙ old_label j n c c.is));
}
  where
    old_label : (i : ℕ) (m : NodeOf L) (b : Before k f nodes i m) → ((i ≡ k) × (m ≡ f b.old)) ⊎ (m ≡ b.old) → m.label ≡ b.old.label
    old_label i m b (inl p) = ap (λ x. x.label) p.1 ∙ keeps b.old
    old_label i m b (inr q) = ap (λ x. x.label) q

module _ {L : Type 0} (a : Algebra L) (laws : Laws a) (t : Setting) (takes_bound : IsTrue (a.takes_bound t.bound)) (sound : IsSoundGraph t.graph) where
  drop_label : (l : L) (number : ℕ) (n : NodeOf L) (b : Bool) → (cond b (record n { dropped_by = Some number; state = Done }) n).label ≡ n.label
  drop_label l number n true = refl
  drop_label l number n false = refl

  -- no old node has the new label
  new_label : (nodes : List (NodeOf L)) (id : ℕ) (l : L) → Facts a t nodes → IsUndominated a laws t nodes id l → AreDistinct nodes → (j : ℕ) (n : NodeOf L)
      → slice_get nodes j ≡ Some n → n.label ≡ l → ⊥
  new_label nodes id l facts none d j n at e =
      let c : IsCovered a t nodes n.label = node_covered a laws t takes_bound nodes facts j n at in
      none.no c.by c.node c.kept.at c.kept.kept (ap (λ x. a.dominates c.node.label x) (sym e) ∙ c.dominates)

  module _ (nodes : List (NodeOf L)) (id : ℕ) (l : L) (no_old : (j : ℕ) (n : NodeOf L) → slice_get nodes j ≡ Some n → n.label ≡ l → ⊥) (d : AreDistinct nodes) where
    kept_label : (x : NodeOf L) → x.label ≡ (drop_by a t l (length nodes) x).label
    kept_label x = sym (drop_label l (length nodes) x (is_kept x && a.dominates l x.label))

    once_at : (i j : ℕ) (m n : NodeOf L) → m.label ≡ n.label → Pushed (drop_by a t l (length nodes)) nodes (fresh l (Some id)) i m
        → Pushed (drop_by a t l (length nodes)) nodes (fresh l (Some id)) j n → i ≡ j
    once_at i j m n e (earlier x at is lt) (earlier y bt js lu) =
        d.once i j x y at bt (kept_label x ∙ (ap (λ z. z.label) (sym is) ∙ (e ∙ (ap (λ z. z.label) js ∙ sym (kept_label y)))))
    once_at i j m n e (earlier x at is lt) (last g js) = absurd (no_old i x at (kept_label x ∙ (ap (λ z. z.label) (sym is) ∙ (e ∙ ap (λ z. z.label) js))))
    once_at i j m n e (last g is) (earlier y bt js lu) = absurd (no_old j y bt (kept_label y ∙ (ap (λ z. z.label) (sym js) ∙ (sym e ∙ ap (λ z. z.label) is))))
    once_at i j m n e (last g is) (last h js) = g ∙ sym h

    distinct_pushed : AreDistinct (added a t nodes id l)
    distinct_pushed = record {
      once = λ i j m n hm hn e. once_at i j m n e (before_push (drop_by a t l (length nodes)) nodes (fresh l (Some id)) i m hm)
          (before_push (drop_by a t l (length nodes)) nodes (fresh l (Some id)) j n hn);
    }

  entries_logged : (s : State L) (e : Entry) (ns : List (NodeOf L)) (r : TableReply) → total node_entries ns ≡ total node_entries s.nodes + 1
      → length s.log ≡ total node_entries s.nodes → length (logged a t s e ns r).state.log ≡ total node_entries (logged a t s e ns r).state.nodes
  entries_logged s e ns r h c = let more : length (s.log ++ e ∷ []) ≡ length s.log + 1 = length-append s.log (e ∷ []) in omega arith

  -- what a step keeps
  record Keeps (s : State L) : Type 0 where
    distinct_labels : AreDistinct s.nodes
    entries : length s.log ≡ total node_entries s.nodes

  keeps_cond : (b : Bool) (x y : Outcome L) → Keeps x.state → Keeps y.state → Keeps (cond b x y).state
  keeps_cond true x y p q = p
  keeps_cond false x y p q = q

  module _ (s : State L) (facts : Facts a t s.nodes) (order : Order a t s.nodes) (k : Keeps s) where
    keeps_takes : (w i : ℕ) → Earliest is_node_pending (offset a t) s.nodes i → Keeps (takes a t s w i).state
    keeps_takes w i f =
        let g : NodeOf L → NodeOf L = λ n. record n { state = TakenBy w } in
        let kept : IsTrue (is_kept f.item) = order.pending_kept i f.item f.at f.passes in
        let pending : state_entries f.item.state ≡ 0 = ap state_entries (pending_state f.item f.passes) in
        let more : total node_entries (changed i g s.nodes) ≡ total node_entries s.nodes + 1 = sum-changed node_entries g i s.nodes f.item f.at (one_more g f.item kept kept (omega arith)) in
        record {
          distinct_labels = distinct_changed i g s.nodes (λ _. refl) k.distinct_labels;
          entries = entries_logged s (record { worker = w; step = Take })
              (changed i g s.nodes) (Taken i) more k.entries;
        }

    keeps_taken : (w : ℕ) (p o : Option ℕ) → next a t s.nodes ≡ p → Keeps (taken a t s w p o).state
    keeps_taken w None None e = k
    keeps_taken w None (Some h) e = keeps_cond (is_full a t s) _ _ k k
    keeps_taken w (Some i) None e = keeps_cond (is_full a t s) _ _ k (keeps_takes w i (found_earliest is_node_pending (offset a t) s.nodes i e))
    keeps_taken w (Some i) (Some h) e =
        keeps_cond (is_full a t s) _ _ k
        (keeps_cond (nat_lt (offset_at a t s.nodes i) (offset_at a t s.nodes h + separation t)) (takes a t s w i) (unchanged a t s (Busy h))
        (keeps_takes w i (found_earliest is_node_pending (offset a t) s.nodes i e)) k)

    keeps_close : (w id : ℕ) (n : NodeOf L) → slice_get s.nodes id ≡ Some n → n.state ≡ TakenBy w → Keeps (step_of a t s w (Close id)).state
    keeps_close w id n at held =
        let g : NodeOf L → NodeOf L = λ m. record m { state = Done } in
        let kept : IsTrue (is_kept n) = order.taken_kept id n at (taken_is a t n w held) in
        let one : state_entries n.state ≡ 1 = ap state_entries held in
        let more : total node_entries (changed id g s.nodes) ≡ total node_entries s.nodes + 1 = sum-changed node_entries g id s.nodes n at (one_more g n kept kept (omega arith)) in
        keeps_cond (is_full a t s) _ _ k
        (record {
          distinct_labels = distinct_changed id g s.nodes (λ _. refl) k.distinct_labels;
          entries = entries_logged s (record { worker = w; step = Close id })
              (changed id g s.nodes) Closed more k.entries;
        })

    module _ (e : Entry) (w id : ℕ) (n : NodeOf L) (at : slice_get s.nodes id ≡ Some n) (held : n.state ≡ TakenBy w) (l : L) (later : offset a t n + separation t ≤ a.offset l) where
      counted_more : total node_entries (changed id count_one s.nodes) ≡ total node_entries s.nodes + 1
      counted_more =
          let kept : IsTrue (is_kept n) = order.taken_kept id n at (taken_is a t n w held) in
          sum-changed node_entries count_one id s.nodes n at (one_more count_one n kept kept (omega arith))

      counted_distinct : AreDistinct (changed id count_one s.nodes)
      counted_distinct = distinct_changed id count_one s.nodes (λ _. refl) k.distinct_labels

      no_new : first (dominating a t l) (changed id count_one s.nodes) ≡ None → (j : ℕ) (m : NodeOf L) → slice_get (changed id count_one s.nodes) j ≡ Some m → m.label ≡ l → ⊥
      no_new none j m h lab =
          let b : Before id count_one s.nodes j m = before_change id count_one s.nodes j m h in
          new_label s.nodes id l facts (undominated a laws t s.nodes id n l none) k.distinct_labels j b.old b.at (sym (old_of j m b b.is) ∙ lab)
        where
          old_of : (j : ℕ) (m : NodeOf L) (b : Before id count_one s.nodes j m) → ((j ≡ id) × (m ≡ count_one b.old)) ⊎ (m ≡ b.old) → m.label ≡ b.old.label
          old_of j m b (inl p) = ap (λ x. x.label) p.1
          old_of j m b (inr q) = ap (λ x. x.label) q

      now : Order a t (changed id count_one s.nodes)
      now = counted_order a t sound laws s e w id n at held order

      -- a node that is dropped had no entries
      dropped_none : (j : ℕ) (m : NodeOf L) → slice_get (changed id count_one s.nodes) j ≡ Some m → IsTrue (is_kept m) → IsTrue (a.dominates l m.label) → node_entries m ≡ 0
      dropped_none j m h kept d =
          let p : IsTrue (is_node_pending m) = only_pending a t sound laws (changed id count_one s.nodes) id (count_one n)
          (counted_at a t sound laws s e w id n at held order) (taken_is a t n w held) l later now j m h kept d m.state refl in
          let none : m.offered ≡ 0 = now.pending_idle j m h p in
          let state : state_entries m.state ≡ 0 = ap state_entries (pending_state m p) in
          let both = kept_entries m kept in
          omega (arith, none, state, both)

      drop_entries : (number j : ℕ) (m : NodeOf L) (b c : Bool) → slice_get (changed id count_one s.nodes) j ≡ Some m → is_kept m ≡ b → a.dominates l m.label ≡ c
          → node_entries (cond (b && c) (record m { dropped_by = Some number; state = Done }) m) ≡ node_entries m
      drop_entries number j m true true h p q = sym (dropped_none j m h p q)
      drop_entries number j m true false h p q = refl
      drop_entries number j m false c h p q = refl

      sum-added : total node_entries (added a t (changed id count_one s.nodes) id l) ≡ total node_entries (changed id count_one s.nodes)
      sum-added =
          sum-pushed node_entries (drop_by a t l (length (changed id count_one s.nodes))) (changed id count_one s.nodes) (fresh l (Some id))
          (λ j m h. drop_entries (length (changed id count_one s.nodes)) j m (is_kept m) (a.dominates l m.label) h refl refl) refl

      keeps_compared : (o : Option ℕ) → first (dominating a t l) (changed id count_one s.nodes) ≡ o → Keeps (compared a t s e (changed id count_one s.nodes) id l o).state
      keeps_compared (Some j) h = record { distinct_labels = counted_distinct; entries = entries_logged s e (changed id count_one s.nodes) (Dominated j) counted_more k.entries }
      keeps_compared None h =
          record {
            distinct_labels = distinct_pushed (changed id count_one s.nodes) id l (no_new h) counted_distinct;
            entries = entries_logged s e (added a t (changed id count_one s.nodes) id l) (Added (length (changed id count_one s.nodes))) (sum-added ∙ counted_more) k.entries;
          }

      keeps_offered : Keeps (offered a t s e id l).state
      keeps_offered = keeps_cond (in_range a t l) _ _ (keeps_compared (first (dominating a t l) (changed id count_one s.nodes)) refl)
          (record { distinct_labels = counted_distinct; entries = entries_logged s e (changed id count_one s.nodes) OutOfRange counted_more k.entries })

    keeps_offered_at : (e : Entry) (w id i : ℕ) (m : NodeOf L) (o : Option (NodeOf L)) → slice_get s.nodes id ≡ o → slice_get s.nodes id ≡ Some m → m.state ≡ TakenBy w
        → i < out_degree t.graph (a.vertex m.label) → Keeps (offered_at a t s e id i o).state
    keeps_offered_at e w id i m None h at held lt = k
    keeps_offered_at e w id i m (Some n) h at held lt =
        let same : m ≡ n = same_Some m n (sym at ∙ h) in
        let held_n : n.state ≡ TakenBy w = ap (λ (z : NodeOf L). z.state) (sym same) ∙ held in
        let less : i < out_degree t.graph (a.vertex n.label) = subst (λ (z : NodeOf L). i < out_degree t.graph (a.vertex z.label)) same lt in
        keeps_offered e w id n h held_n (extended a t n.label i) (extended_later a t sound laws n i (facts.walks id n h) less)

    keeps_step : (w : ℕ) (step : TableStep) → CanStep a t s w step → Keeps (step_of a t s w step).state
    keeps_step w Take can = keeps_taken w (next a t s.nodes) (holder a t s.nodes) refl
    keeps_step w (Offer id i) can = keeps_cond (is_full a t s) _ _ k (keeps_offered_at (record { worker = w; step = Offer id i }) w id i can.0 (slice_get s.nodes id) refl can.1.at can.1.held can.3)
    keeps_step w (Close id) can = keeps_close w id can.0 can.1.at can.1.held

  opening_none : (n v : ℕ) → total node_entries (opening_nodes a t v n) ≡ 0
  opening_none zero v = refl
  opening_none (suc n) v = at_head (in_range a t (opening_label a t v)) (opening_none n (v + 1))
    where
      at_head : (b : Bool) → total node_entries (opening_nodes a t (v + 1) n) ≡ 0
          → total node_entries (cond b (fresh (opening_label a t v) None ∷ opening_nodes a t (v + 1) n) (opening_nodes a t (v + 1) n)) ≡ 0
      at_head true h = omega (arith, h)
      at_head false h = h

  opening_keeps : Keeps (opening_state a t)
  opening_keeps = record {
    distinct_labels = record { once = λ i j m n hm hn e. distinct a laws t (length t.graph.vertices) 0 i j m n hm hn (ap a.vertex e) };
    entries = sym (opening_none (length t.graph.vertices) 0);
  }

  -- what each step keeps beside the facts and the order
  abbrev Kept : State L → Type 0
  Kept s = Facts a t s.nodes × Order a t s.nodes × Keeps s

  step_kept : (s : State L) (e : Entry) → CanEnter a t s e → Kept s → Kept (after a t s e)
  step_kept s e can k = (
    step_keeps a laws t s e.worker e.step k.0 can,
    step_order a t sound laws s e.worker e.step k.0 k.1 can,
    keeps_step s k.0 k.1 k.2 e.worker e.step can,
  )

  run_kept : (es : List Entry) → IsRun a t es → Kept (replay a t es)
  run_kept es run =
      run_keeps (after a t) (CanEnter a t) (λ (s : State L). s.log) Kept step_kept es (opening_state a t)
      (opening_facts a laws t, opening_order a laws t, opening_keeps) run

  -- the work of a run
  pub run_bounded : (es : List Entry) → IsRun a t es → IsBounded (replay a t es)
  run_bounded es run =
      let k : Keeps (replay a t es) = (run_kept es run).2 in
      record { once = k.distinct_labels.once; entries = k.entries }
