-- A call on the table: what a look at the table shows, and what the call then makes of a step.
use Rattle.std.proofs.Common.{◌≡◌, ℕ, ◌<◌, ◌≤◌, true, false, Option, Some, None, List, length, refl, sym, ap, ◌∙◌, subst, arith}
use Rattle.std.specs.Prelude.{slice_get, is_none, ◌&&◌, ◌==◌}
use Rattle.std.proofs.lemmas.Bool.Decides.{nat_tests}
use Rattle.std.proofs.lemmas.Option.{none-some, same_Some}
use Rattle.drt_effort.specs.Efforts.{most_budget}
use Rattle.drt_model.specs.Numbers.{most_time}
use Rattle.drt_label.specs.Algebra.{Algebra, Laws}
use Rattle.drt_model.specs.Digraph.{out_degree}
use Rattle.drt_table.specs.Machine.{Setting, State, CanStep, Holds, extended}
use Rattle.drt_table.specs.Node.{NodeOf, is_held_by, is_taken_by}
use Rattle.drt_table.specs.Taking.{taken_node}
use Rattle.drt_table.specs.View.{View, CanApply, ComesWith, setting_of, state_of}
use Rattle.drt_table.specs.declared.node.NodeState.{NodeState}
use Rattle.drt_table.specs.declared.node.NodeState.TheVariants.{Pending, Taken as TakenBy, Done}
use Rattle.drt_table.specs.declared.step.TableStep.TheVariants.{Take as TakeStep, Offer as OfferStep, Close as CloseStep}
use Rattle.drt_table.specs.declared.step.TableReply.{TableReply}
use Rattle.drt_table.specs.declared.step.TableReply.TheVariants.{Taken, Busy, Finished, Added, Dominated, OutOfRange, Closed, Spent}
use Rattle.drt_table.specs.View.{IsTable}
use Rattle.drt_table.proofs.Tables.{at_node, offer_held}
use Rattle.drt_table.proofs.Earliest.{and_left, and_right}
use Rattle.drt_worklist.specs.Places.{first}
use Rattle.drt_worklist.proofs.Lists.{Found as FoundAt, found, none_found}
use Rattle.drt_shared.specs.TableBoard.{ComesTaken, CanMove, CanCount, HasMore, CanHandOut, HandsOut, IsLogged, IsCall}
use Rattle.drt_shared.specs.Finds.{is_same, found_node, found_at, found_for, is_that_node, is_expected}
use Rattle.drt_shared.specs.Passes.{AreHeld, IsHolding, IsLabel, CanOffer}
use Rattle.drt_shared.specs.Replies.{IsOfTake, IsOfOffer, IsOfClose}
use Rattle.drt_shared.specs.declared.pass.Holding.{Holding}
use Rattle.drt_shared.specs.declared.reply.Found.{Found}
use Rattle.drt_shared.specs.declared.reply.Move.{Move}
use Rattle.drt_shared.specs.declared.reply.Move.TheVariants.{Take, Offer, Close}
use Rattle.drt_shared.specs.declared.reply.SharedReply.TheVariants.{Step, Halted, Strange}

is_equal : (m n : ℕ) → (m == n) ≡ true → m ≡ n
is_equal m n e = grind (arith, nat_tests)

equals_itself : (n : ℕ) → (n == n) ≡ true
equals_itself n = grind (arith, nat_tests)

state_held : (w : ℕ) (s : NodeState) → is_taken_by w s ≡ true → s ≡ TakenBy w
state_held w Pending e = absurd (cc e)
state_held w (TakenBy x) e = ap (λ y. TakenBy y) (is_equal x w e)
state_held w Done e = absurd (cc e)

number_is : (k : ℕ) (o : Option ℕ) → is_that_node k o ≡ true → o ≡ Some k
number_is k None e = absurd (cc e)
number_is k (Some j) e = ap (λ n. Some n) (is_equal j k e)

none_is : {A : Type 0} (o : Option A) → is_none o ≡ true → o ≡ None
none_is None e = refl
none_is (Some x) e = absurd (cc e)

module _ {L : Type 0} (a : Algebra L) where
  node_held : (o : Option (Holding L)) (id : ℕ) (n : Option (NodeOf L)) → (found_node a o id n).held ≡ Some id
  node_held o id None = refl
  node_held o id (Some n) = refl

  held_is : (nodes : List (NodeOf L)) (o : Option (Holding L)) (p : Option ℕ) → (found_at a nodes o p).held ≡ p
  held_is nodes o None = refl
  held_is nodes o (Some id) = node_held o id (slice_get nodes id)

  -- where a pass holds nothing and nothing else was found, the worker holds no node
  pub holds_none : (nodes : List (NodeOf L)) (w : ℕ) (o : Option (Holding L)) → o ≡ None → is_expected o (found_for a nodes w o) ≡ true → first (is_held_by w) nodes ≡ None
  holds_none nodes w o none e =
      let f : is_none (found_for a nodes w o).held ≡ true = subst (λ (p : Option (Holding L)). is_expected p (found_for a nodes w o) ≡ true) none e in
      sym (held_is nodes o (first (is_held_by w) nodes)) ∙ none_is (found_for a nodes w o).held f

  module _ (t : Setting) (s : State L) (w : ℕ) where
    -- such a worker may take
    pub may_take : first (is_held_by w) s.nodes ≡ None → CanStep a t s w TakeStep
    may_take e id n at held = absurd (cc (none_found (is_held_by w) s.nodes e id n at, ap (λ x. is_taken_by w x) held, equals_itself w))

    -- what the machine has of the node that a pass holds
    pub record IsSeen (h : Holding L) : Type 0 where
      pub node : NodeOf L
      pub holds : Holds a t s w h.node node
      pub offered : node.offered ≡ h.offered
      pub label : node.label ≡ h.label

    module _ (laws : Laws a) (h : Holding L) where
      seen_node : (id : ℕ) (n : NodeOf L) → first (is_held_by w) s.nodes ≡ Some id → slice_get s.nodes id ≡ Some n → is_expected (Some h) (found_node a (Some h) id (Some n)) ≡ true → IsSeen h
      seen_node id n at-first at e =
          let f : FoundAt (is_held_by w) s.nodes id = found (is_held_by w) s.nodes id at-first in
          let same : id ≡ h.node = is_equal id h.node (and_left (id == h.node) ((n.offered == h.offered) && is_same a h.label n.label) e) in
          let more : ((n.offered == h.offered) && is_same a h.label n.label) ≡ true = and_right (id == h.node) ((n.offered == h.offered) && is_same a h.label n.label) e in
          let one : f.item ≡ n = same_Some f.item n (sym f.at ∙ at) in
          let labels : is_same a h.label n.label ≡ true = and_right (n.offered == h.offered) (is_same a h.label n.label) more in
          record {
            node = n;
            holds = record {
              at = subst (λ i. slice_get s.nodes i ≡ Some n) same at;
              held = state_held w n.state (subst (λ (m : NodeOf L). is_held_by w m ≡ true) one f.passes);
            };
            offered = is_equal n.offered h.offered (and_left (n.offered == h.offered) (is_same a h.label n.label) more);
            label = laws.antisymmetric n.label h.label (and_right (a.dominates h.label n.label) (a.dominates n.label h.label) labels)
                (and_left (a.dominates h.label n.label) (a.dominates n.label h.label) labels);
          }

      no_node : (id : ℕ) → is_expected (Some h) (found_node a (Some h) id None) ≡ true → ⊥
      no_node id e = absurd (cc (and_right (0 == h.offered) false (and_right (id == h.node) ((0 == h.offered) && false) e)))

      seen_at : (id : ℕ) (q : Option (NodeOf L)) → first (is_held_by w) s.nodes ≡ Some id → slice_get s.nodes id ≡ q → is_expected (Some h) (found_node a (Some h) id q) ≡ true → IsSeen h
      seen_at id None at-first at e = absurd (no_node id e)
      seen_at id (Some n) at-first at e = seen_node id n at-first at e

      seen_first : (p : Option ℕ) → first (is_held_by w) s.nodes ≡ p → is_expected (Some h) (found_at a s.nodes (Some h) p) ≡ true → IsSeen h
      seen_first None is e = absurd (cc e)
      seen_first (Some id) is e = seen_at id (slice_get s.nodes id) is refl e

      -- where what was found is what the pass holds
      pub seen : (o : Option (Holding L)) → o ≡ Some h → is_expected o (found_for a s.nodes w o) ≡ true → IsSeen h
      seen o is e = seen_first (first (is_held_by w) s.nodes) refl (subst (λ (p : Option (Holding L)). is_expected p (found_for a s.nodes w p) ≡ true) is e)

-- The conditions of the machine's step are those of the move, for what the pass holds.
module _ {L : Type 0} (a : Algebra L) (laws : Laws a) (v : View L) (w : ℕ) (o : Option (Holding L)) (e : is_expected o (found_for a (state_of v).nodes w o) ≡ true)
    (h : Holding L) (is : o ≡ Some h) where
  view_seen : IsSeen a (setting_of v) (state_of v) w h
  view_seen = seen a (setting_of v) (state_of v) w laws h o is e

  one_held : (g : Holding L) → o ≡ Some g → g ≡ h
  one_held g at = same_Some g h (sym at ∙ is)

  pub may_offer : (k : ℕ) (l : L) → CanMove a (setting_of v) o (Offer k l) → CanApply a v w (OfferStep h.node k)
  may_offer k l can =
      let x = view_seen in
      let c : CanOffer a (setting_of v) h k l = subst (λ (g : Holding L). CanOffer a (setting_of v) g k l) (one_held can.0 can.1) can.2 in
      (x.node, x.holds, c.next ∙ sym x.offered, subst (λ (y : L). k < out_degree v.graph (a.vertex y)) (sym x.label) c.within)

  pub offer_comes : (k : ℕ) (l : L) → CanMove a (setting_of v) o (Offer k l) → ComesWith a v (OfferStep h.node k) (Some l)
  offer_comes k l can =
      let x = view_seen in
      let c : CanOffer a (setting_of v) h k l = subst (λ (g : Holding L). CanOffer a (setting_of v) g k l) (one_held can.0 can.1) can.2 in
      (x.node, x.holds.at, ap (λ (y : L). Some y) (c.label_is ∙ ap (λ (y : L). extended a (setting_of v) y k) (sym x.label)))

  pub may_close : CanMove a (setting_of v) o Close → CanApply a v w (CloseStep h.node)
  may_close can =
      let x = view_seen in
      let c : h.offered ≡ out_degree v.graph (a.vertex h.label) = subst (λ (g : Holding L). g.offered ≡ out_degree v.graph (a.vertex g.label)) (one_held can.0 can.1) can.2 in
      (x.node, x.holds, x.offered ∙ (c ∙ ap (λ (y : L). out_degree v.graph (a.vertex y)) (sym x.label)))

  -- an out-edge is left
  pub has_more : IsTable a v → (k : ℕ) (l : L) → CanMove a (setting_of v) o (Offer k l) → HasMore a (setting_of v) o
  has_more table k l can g at =
      let x = view_seen in
      let held = offer_held a laws v table w h.node k (may_offer k l can) l (let c = offer_comes k l can in (c.0, c.1, some_same c.2)) in
      let one : held.0.node ≡ x.node = same_Some held.0.node x.node (sym (at_node a laws v table h.node held.0 held.1) ∙ x.holds.at) in
      let same : held.0.node.offered ≡ h.offered = ap (λ (n : NodeOf L). n.offered) one ∙ x.offered in
      let c : CanOffer a (setting_of v) g k l = subst (λ (y : Holding L). CanOffer a (setting_of v) y k l) (same_Some can.0 g (sym can.1 ∙ at)) can.2 in
      let few : h.offered < 1000 = (let f : held.0.node.offered < 1000 = held.2 in omega arith) in (
        subst (λ (y : Holding L). y.offered < 1000) (sym (one_held g at)) few,
        subst (λ n. n < out_degree v.graph (a.vertex g.label)) c.next c.within,
      )
    where
      some_same : {x y : L} → Some x ≡ Some y → x ≡ y
      some_same {x} {y} e = same_Some x y e

offer_nothing : (L : Type 0) (r : TableReply) → IsOfOffer r → ComesTaken {L = L} r None
offer_nothing L (Taken k) x = absurd x
offer_nothing L (Busy k) x = tt
offer_nothing L Finished x = tt
offer_nothing L (Added k) x = tt
offer_nothing L (Dominated k) x = tt
offer_nothing L OutOfRange x = tt
offer_nothing L Closed x = tt
offer_nothing L Spent x = tt

close_nothing : (L : Type 0) (r : TableReply) → IsOfClose r → ComesTaken {L = L} r None
close_nothing L (Taken k) x = absurd x
close_nothing L (Busy k) x = tt
close_nothing L Finished x = tt
close_nothing L (Added k) x = tt
close_nothing L (Dominated k) x = tt
close_nothing L OutOfRange x = tt
close_nothing L Closed x = tt
close_nothing L Spent x = tt

take_nothing : (L : Type 0) (r : TableReply) → taken_node r ≡ None → ComesTaken {L = L} r None
take_nothing L (Taken k) x = absurd (none-some k (sym x))
take_nothing L (Busy k) x = tt
take_nothing L Finished x = tt
take_nothing L (Added k) x = tt
take_nothing L (Dominated k) x = tt
take_nothing L OutOfRange x = tt
take_nothing L Closed x = tt
take_nothing L Spent x = tt

take_something : {L : Type 0} (r : TableReply) (h : Holding L) → taken_node r ≡ Some h.node → h.offered ≡ 0 → ComesTaken r (Some h)
take_something (Taken k) h x z = (sym (same_Some k h.node x), z)
take_something (Busy k) h x z = tt
take_something Finished h x z = tt
take_something (Added k) h x z = tt
take_something (Dominated k) h x z = tt
take_something OutOfRange h x z = tt
take_something Closed h x z = tt
take_something Spent h x z = tt

module _ {L : Type 0} (a : Algebra L) where
  offer_counts : (t : Setting) (o : Option (Holding L)) (r : TableReply) → IsOfOffer r → HasMore a t o → CanCount a t r o
  offer_counts t o (Taken k) x more = tt
  offer_counts t o (Busy k) x more = tt
  offer_counts t o Finished x more = tt
  offer_counts t o (Added k) x more = more
  offer_counts t o (Dominated k) x more = more
  offer_counts t o OutOfRange x more = more
  offer_counts t o Closed x more = tt
  offer_counts t o Spent x more = tt

  close_counts : (t : Setting) (o : Option (Holding L)) (r : TableReply) → IsOfClose r → CanCount a t r o
  close_counts t o (Taken k) x = tt
  close_counts t o (Busy k) x = tt
  close_counts t o Finished x = tt
  close_counts t o (Added k) x = absurd x
  close_counts t o (Dominated k) x = absurd x
  close_counts t o OutOfRange x = absurd x
  close_counts t o Closed x = tt
  close_counts t o Spent x = tt

  take_counts : (t : Setting) (o : Option (Holding L)) (r : TableReply) → IsOfTake r → CanCount a t r o
  take_counts t o (Taken k) x = tt
  take_counts t o (Busy k) x = tt
  take_counts t o Finished x = tt
  take_counts t o (Added k) x = absurd x
  take_counts t o (Dominated k) x = absurd x
  take_counts t o OutOfRange x = absurd x
  take_counts t o Closed x = tt
  take_counts t o Spent x = tt

  pub nothing_held : (t : Setting) → AreHeld a t None
  nothing_held t h e = absurd (none-some h e)

  -- a call that found something else
  pub strange_call : (v : View L) (o : Option (Holding L)) (m : Move L) (f : Found) → length v.log ≤ most_budget → is_expected o f ≡ false → IsCall a v v o m (Strange f) None
  strange_call v o m f few e = record { setting = refl; log = omega arith; few = few; kind = tt; differs = e; comes = tt; held = nothing_held (setting_of v); next = tt }

  -- a call after the search was halted
  pub halted_call : (v : View L) (o : Option (Holding L)) (m : Move L) → length v.log ≤ most_budget → IsCall a v v o m Halted None
  halted_call v o m few = record { setting = refl; log = omega arith; few = few; kind = tt; differs = tt; comes = tt; held = nothing_held (setting_of v); next = tt }

  -- a call that made a step
  pub offer_call : (old new : View L) (o : Option (Holding L)) (id k : ℕ) (l : L) (r : TableReply) → IsLogged old new (OfferStep id k) r → HasMore a (setting_of old) o
      → IsCall a old new o (Offer k l) (Step r) None
  offer_call old new o id k l r is more = record {
    setting = is.setting;
    log = is.log;
    few = is.few;
    kind = is.kind;
    differs = tt;
    comes = offer_nothing L r is.kind;
    held = nothing_held (setting_of old);
    next = offer_counts (setting_of old) o r is.kind more;
  }

  pub close_call : (old new : View L) (o : Option (Holding L)) (id : ℕ) (r : TableReply) → IsLogged old new (CloseStep id) r → IsCall a old new o Close (Step r) None
  close_call old new o id r is = record {
    setting = is.setting;
    log = is.log;
    few = is.few;
    kind = is.kind;
    differs = tt;
    comes = close_nothing L r is.kind;
    held = nothing_held (setting_of old);
    next = close_counts (setting_of old) o r is.kind;
  }

  pub take_call : (old new : View L) (o : Option (Holding L)) (r : TableReply) → IsLogged old new TakeStep r → taken_node r ≡ None → IsCall a old new o Take (Step r) None
  take_call old new o r is none = record {
    setting = is.setting;
    log = is.log;
    few = is.few;
    kind = is.kind;
    differs = tt;
    comes = take_nothing L r none;
    held = nothing_held (setting_of old);
    next = take_counts (setting_of old) o r is.kind;
  }

  pub taken_call : (old mid new : View L) (o : Option (Holding L)) (r : TableReply) (h : Holding L) → IsLogged old mid TakeStep r → taken_node r ≡ Some h.node → h.offered ≡ 0
      → setting_of new ≡ setting_of mid → new.log ≡ mid.log → IsLabel a (setting_of mid) h.label → IsCall a old new o Take (Step r) (Some h)
  taken_call old mid new o r h is node zero set log label = record {
    setting = set ∙ is.setting;
    log = ap length log ∙ is.log;
    few = subst (λ n. n ≤ most_time) (ap length (sym log)) is.few;
    kind = is.kind;
    differs = tt;
    comes = take_something r h node zero;
    held = λ g e.
        subst (λ (x : Holding L). IsHolding a (setting_of old) x) (same_Some h g e)
        (subst (λ (x : Setting). IsHolding a x h) is.setting record { label = label; offered = subst (λ n. n ≤ out_degree (setting_of mid).graph (a.vertex h.label)) (sym zero) (omega arith) });
    next = take_counts (setting_of old) o r is.kind;
  }

-- the node that was taken can be handed out
pub hands_node : {L : Type 0} (v : View L) (r : TableReply) (k : ℕ) → taken_node r ≡ Some k → HandsOut v r → CanHandOut v k
hands_node v (Taken j) k e x = subst (λ i. CanHandOut v i) (same_Some j k e) x
hands_node v (Busy j) k e x = absurd (none-some k e)
hands_node v Finished k e x = absurd (none-some k e)
hands_node v (Added j) k e x = absurd (none-some k e)
hands_node v (Dominated j) k e x = absurd (none-some k e)
hands_node v OutOfRange k e x = absurd (none-some k e)
hands_node v Closed k e x = absurd (none-some k e)
hands_node v Spent k e x = absurd (none-some k e)
