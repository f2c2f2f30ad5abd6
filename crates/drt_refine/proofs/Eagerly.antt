-- What holds after any eager run: how each combination is settled, where its halves stand, and that each step keeps it.
use Rattle.std.proofs.Common.{◌≡◌, ℕ, suc, zero, ◌+◌, ◌≤◌, ◌<◌, ◌⊎◌, Bool, true, false, cond, Option, Some, None, List, [], ◌∷◌, ◌++◌, length, refl, sym, ap, ◌∙◌, subst, inl, inr, arith, set}
use Rattle.std.specs.Prelude.{slice_get}
use Rattle.std.proofs.lemmas.Option.{none-some, same_Some, slice_get_within}
use Rattle.drt_worklist.specs.Places.{first, changed}
use Rattle.drt_worklist.proofs.Lists.{Before, before_change, After, after_change, length-changed, earlier, later, before_join, after_join, after_end, Found, found, none_found}
use Rattle.drt_tree.specs.Tree.{Plain, IsUnder, children}
use Rattle.drt_refine.specs.Below.{AreBelow}
use Rattle.drt_refine.specs.Combination.{Combination, fresh_combination, with_state, is_combination_pending, is_pending_combination, is_combination_taken, is_taken_combination, is_failed, is_failed_state}
use Rattle.drt_refine.specs.Machine.{FrontierSetting, FrontierState, FrontierOutcome, opening_state, after, is_full, is_finished, taken, halved, halved_at, children_at, stepped, step_by}
use Rattle.drt_refine.specs.Machine.{replay_from, replay, IsRunFrom, IsRun, CanStep, IsPairAt, NonePasses}
use Rattle.drt_refine.specs.Eager.{IsWidest, IsSplitPlace, IsEagerStep, AreEagerFrom, IsEager}
use Rattle.drt_refine.specs.Settled.{AreSettled, CombinationHasNodes, IsPassedOrSplit, IsHalfOf, IsSettled, IsSplitInto}
use Rattle.drt_refine.specs.declared.step.CombinationState.{CombinationState}
use Rattle.drt_refine.specs.declared.step.CombinationState.TheVariants.{Pending, Taken as TakenBy, Passed as PassedAt, Split as SplitAt, Failed as HasFailed}
use Rattle.drt_refine.specs.declared.step.FrontierStep.{FrontierStep}
use Rattle.drt_refine.specs.declared.step.FrontierStep.TheVariants.{Take, Pass, Split, Fail}
use Rattle.drt_refine.specs.declared.step.FrontierEntry.{FrontierEntry}
use Rattle.drt_refine.proofs.Runs.{AreNone, finished_none}

module _ (f : Plain) where
  under_left : (leaf n l r : ℕ) → children f n ≡ Some (l, r) → IsUnder f leaf l → IsUnder f leaf n
  under_left leaf n l r h u = (true ∷ u.0, (l, r, h, u.1))

  under_right : (leaf n l r : ℕ) → children f n ≡ Some (l, r) → IsUnder f leaf r → IsUnder f leaf n
  under_right leaf n l r h u = (false ∷ u.0, (l, r, h, u.1))

  -- a tuple below the nodes with another node at a place, under which are only leaves under the one that stood there, is below the nodes
  below_set : (tuple nodes : List ℕ) (place n l : ℕ) → slice_get nodes place ≡ Some n → ((leaf : ℕ) → IsUnder f leaf l → IsUnder f leaf n) → AreBelow f tuple (set nodes place l)
      → AreBelow f tuple nodes
  below_set tuple [] place n l at up b = absurd (none-some n at)
  below_set [] (m ∷ nodes) zero n l at up b = elim b [ ]
  below_set [] (m ∷ nodes) (suc place) n l at up b = elim b [ ]
  below_set (leaf ∷ tuple) (m ∷ nodes) zero n l at up b = (subst (λ (k : ℕ). IsUnder f leaf k) (sym (same_Some m n at)) (up leaf b.0), b.1)
  below_set (leaf ∷ tuple) (m ∷ nodes) (suc place) n l at up b = (b.0, below_set tuple nodes place n l at up b.1)

has_change : (k : ℕ) (s : CombinationState) (cs : List Combination) (j : ℕ) (nodes : List ℕ) → CombinationHasNodes cs j nodes → CombinationHasNodes (changed k (with_state s) cs) j nodes
has_change k s cs j nodes h =
    let a : After k (with_state s) cs j h.combination = after_change k (with_state s) cs j h.combination h.at in
    record {
      combination = a.new;
      at = a.at;
      are = elim a.is as (λ _. a.new.nodes ≡ nodes) [
        | inl p ↦ ap (λ (x : Combination). x.nodes) p.1 ∙ h.are
        | inr e ↦ ap (λ (x : Combination). x.nodes) e ∙ h.are
      ];
    }

has_join : (cs more : List Combination) (j : ℕ) (nodes : List ℕ) → CombinationHasNodes cs j nodes → CombinationHasNodes (cs ++ more) j nodes
has_join cs more j nodes h = record { combination = h.combination; at = after_join cs more j h.combination h.at; are = h.are }

module _ (t : FrontierSetting) where
  -- what is settled stays so where the combinations keep their nodes
  settled_more : (old new : List Combination) → ((j : ℕ) (nodes : List ℕ) → CombinationHasNodes old j nodes → CombinationHasNodes new j nodes) → (id : ℕ) (nodes : List ℕ) (s : CombinationState)
      → IsSettled t old id nodes s → IsSettled t new id nodes s
  settled_more old new keeps id nodes Pending h = tt
  settled_more old new keeps id nodes (TakenBy w) h = tt
  settled_more old new keeps id nodes (PassedAt time) h = h
  settled_more old new keeps id nodes (SplitAt place left right) h = record {
    none = h.none;
    place_is = h.place_is;
    pair = h.pair;
    left_has = keeps left (set nodes place h.pair.left) h.left_has;
    right_has = keeps right (set nodes place h.pair.right) h.right_has;
    later = h.later;
    next = h.next;
  }
  settled_more old new keeps id nodes HasFailed h = h

  -- a half is one of the combinations
  half_within : (cs : List Combination) (id k : ℕ) (nodes : List ℕ) (s : CombinationState) → IsSettled t cs id nodes s → IsHalfOf k s → k < length cs
  half_within cs id k nodes Pending h g = elim g [ ]
  half_within cs id k nodes (TakenBy w) h g = elim g [ ]
  half_within cs id k nodes (PassedAt time) h g = elim g [ ]
  half_within cs id k nodes (SplitAt place left right) h g =
      let l : left < length cs = slice_get_within cs left h.left_has.combination h.left_has.at in
      let r : right < length cs = slice_get_within cs right h.right_has.combination h.right_has.at in
      elim g as (λ _. k < length cs) [ inl e ↦ omega arith | inr e ↦ omega arith ]
  half_within cs id k nodes HasFailed h g = elim g [ ]

  -- what stood at a place before its combination's state was changed
  record Was (cs : List Combination) (k id : ℕ) (s : CombinationState) (x : Combination) : Type 0 where
    old : Combination
    at : slice_get cs id ≡ Some old
    nodes : x.nodes ≡ old.nodes
    state : ((id ≡ k) × (x.state ≡ s)) ⊎ (x.state ≡ old.state)

  was : (cs : List Combination) (k : ℕ) (s : CombinationState) (id : ℕ) (x : Combination) → slice_get (changed k (with_state s) cs) id ≡ Some x → Was cs k id s x
  was cs k s id x h =
      let b : Before k (with_state s) cs id x = before_change k (with_state s) cs id x h in
      record {
        old = b.old;
        at = b.at;
        nodes = elim b.is as (λ _. x.nodes ≡ b.old.nodes) [ inl p ↦ ap (λ (y : Combination). y.nodes) p.1 | inr e ↦ ap (λ (y : Combination). y.nodes) e ];
        state =
            elim b.is as (λ _. ((id ≡ k) × (x.state ≡ s)) ⊎ (x.state ≡ b.old.state)) [ inl p ↦ inl (p.0, ap (λ (y : Combination). y.state) p.1) | inr e ↦ inr (ap (λ (y : Combination). y.state) e) ];
      }

  -- the combination at k gets another state, of which what it says is so
  module _ (cs : List Combination) (k : ℕ) (c : Combination) (s : CombinationState) (at : slice_get cs k ≡ Some c) (facts : AreSettled t cs) where
    each_change : (new : List Combination) → ((j : ℕ) (nodes : List ℕ) → CombinationHasNodes cs j nodes → CombinationHasNodes new j nodes) → IsSettled t new k c.nodes s → (id : ℕ) (x : Combination)
        → slice_get (changed k (with_state s) cs) id ≡ Some x → IsSettled t new id x.nodes x.state
    each_change new keeps is id x h =
        let b : Was cs k id s x = was cs k s id x h in
        elim b.state as (λ _. IsSettled t new id x.nodes x.state) [
          | inl p ↦
              (let same : c ≡ b.old = same_Some c b.old (sym at ∙ (ap (λ i. slice_get cs i) (sym p.0) ∙ b.at)) in
              let nodes : c.nodes ≡ x.nodes = ap (λ (y : Combination). y.nodes) same ∙ sym b.nodes in
              subst (λ (z : CombinationState). IsSettled t new id x.nodes z) (sym p.1) (subst (λ (l : List ℕ). IsSettled t new id l s) nodes (subst (λ i. IsSettled t new i c.nodes s) (sym p.0) is)))
          | inr e ↦
              (let old : IsSettled t new id b.old.nodes b.old.state = settled_more cs new keeps id b.old.nodes b.old.state (facts.each id b.old b.at) in
              subst (λ (z : CombinationState). IsSettled t new id x.nodes z) (sym e) (subst (λ (l : List ℕ). IsSettled t new id l b.old.state) (sym b.nodes) old))
        ]

    below_change : (id : ℕ) (x : Combination) (tuple : List ℕ) → slice_get (changed k (with_state s) cs) id ≡ Some x → AreBelow t.forest tuple x.nodes → AreBelow t.forest tuple t.roots
    below_change id x tuple h b =
        let w : Was cs k id s x = was cs k s id x h in
        facts.below id w.old tuple w.at (subst (λ (l : List ℕ). AreBelow t.forest tuple l) w.nodes b)

    module _ (whole : (n : ℕ) → IsHalfOf n s → ⊥) (is : (new : List Combination) → IsSettled t new k c.nodes s) where
      half_change : (n id : ℕ) (x : Combination) → (b : Was cs k id s x) → IsHalfOf n x.state → IsHalfOf n b.old.state
      half_change n id x b h = elim b.state as (λ _. IsHalfOf n b.old.state) [
        | inl p ↦ absurd (whole n (subst (λ (z : CombinationState). IsHalfOf n z) p.1 h))
        | inr e ↦ subst (λ (z : CombinationState). IsHalfOf n z) e h
      ]

      once_change : (n i j : ℕ) (x y : Combination) → slice_get (changed k (with_state s) cs) i ≡ Some x → slice_get (changed k (with_state s) cs) j ≡ Some y → IsHalfOf n x.state
          → IsHalfOf n y.state → i ≡ j
      once_change n i j x y hx hy gx gy =
          let bx : Was cs k i s x = was cs k s i x hx in
          let by : Was cs k j s y = was cs k s j y hy in
          facts.once n i j bx.old by.old bx.at by.at (half_change n i x bx gx) (half_change n j y by gy)

      pub state_settles : AreSettled t (changed k (with_state s) cs)
      state_settles = record {
        opening = has_change k s cs 0 t.roots facts.opening;
        each = each_change (changed k (with_state s) cs) (has_change k s cs) (is (changed k (with_state s) cs));
        below = below_change;
        once = once_change;
      }

  -- the combination at k is split at a pair
  module _ (cs : List Combination) (k : ℕ) (c : Combination) (place : ℕ) (at : slice_get cs k ≡ Some c) (pair : IsPairAt t c.nodes place)
      (none : NonePasses t c.nodes) (place_is : IsSplitPlace t.forest c.nodes (Some place)) (facts : AreSettled t cs) where
    abbrev split_state : CombinationState
    split_state = SplitAt place (length cs) (length cs + 1)

    abbrev front : List Combination
    front = changed k (with_state split_state) cs

    abbrev left_nodes : List ℕ
    left_nodes = set c.nodes place pair.left

    abbrev right_nodes : List ℕ
    right_nodes = set c.nodes place pair.right

    abbrev back : List Combination
    back = fresh_combination left_nodes ∷ fresh_combination right_nodes ∷ []

    keeps : (j : ℕ) (nodes : List ℕ) → CombinationHasNodes cs j nodes → CombinationHasNodes (front ++ back) j nodes
    keeps j nodes h = has_join front back j nodes (has_change k split_state cs j nodes h)

    split_into : IsSplitInto t (front ++ back) k c.nodes place (length cs) (length cs + 1)
    split_into =
        let long : length front ≡ length cs = length-changed k (with_state split_state) cs in
        let l : length front + 0 ≡ length cs = omega arith in
        let r : length front + 1 ≡ length cs + 1 = omega arith in
        record {
          none = none;
          place_is = place_is;
          pair = pair;
          left_has =
              record {
                combination = fresh_combination left_nodes;
                at = subst (λ i. slice_get (front ++ back) i ≡ Some (fresh_combination left_nodes)) l
                    (after_end front back 0 (fresh_combination left_nodes) refl);
                are = refl;
              };
          right_has =
              record {
                combination = fresh_combination right_nodes;
                at = subst (λ i. slice_get (front ++ back) i ≡ Some (fresh_combination right_nodes)) r
                    (after_end front back 1 (fresh_combination right_nodes) refl);
                are = refl;
              };
          later = slice_get_within cs k c at;
          next = refl;
        }

    -- what holds of a new half
    record IsNew (id : ℕ) (x : Combination) : Type 0 where
      state : x.state ≡ Pending
      below : (tuple : List ℕ) → AreBelow t.forest tuple x.nodes → AreBelow t.forest tuple t.roots

    new_half : (child : ℕ) → ((leaf : ℕ) → IsUnder t.forest leaf child → IsUnder t.forest leaf pair.node) → (id : ℕ) (x : Combination) → fresh_combination (set c.nodes place child) ≡ x → IsNew id x
    new_half child up id x e = record {
      state = sym (ap (λ (y : Combination). y.state) e);
      below =
          λ tuple b. facts.below k c tuple at (below_set t.forest tuple c.nodes place pair.node child pair.at up (subst (λ (y : Combination). AreBelow t.forest tuple y.nodes) (sym e) b));
    }

    is_new : (i id : ℕ) (x : Combination) → slice_get back i ≡ Some x → IsNew id x
    is_new zero id x h = new_half pair.left (λ leaf u. under_left t.forest leaf pair.node pair.left pair.right pair.children u) id x (same_Some (fresh_combination left_nodes) x h)
    is_new (suc zero) id x h = new_half pair.right (λ leaf u. under_right t.forest leaf pair.node pair.left pair.right pair.children u) id x (same_Some (fresh_combination right_nodes) x h)
    is_new (suc (suc i)) id x h = absurd (none-some x h)

    new_settled : (id : ℕ) (x : Combination) → IsNew id x → IsSettled t (front ++ back) id x.nodes x.state
    new_settled id x n = subst (λ (z : CombinationState). IsSettled t (front ++ back) id x.nodes z) (sym n.state) tt

    each_split : (id : ℕ) (x : Combination) → slice_get (front ++ back) id ≡ Some x → IsSettled t (front ++ back) id x.nodes x.state
    each_split id x h = elim (before_join front back id x h) as (λ _. IsSettled t (front ++ back) id x.nodes x.state) [
      | earlier g ↦ each_change cs k c split_state at facts (front ++ back) keeps split_into id x g
      | later i e g ↦ new_settled id x (is_new i id x g)
    ]

    below_split : (id : ℕ) (x : Combination) (tuple : List ℕ) → slice_get (front ++ back) id ≡ Some x → AreBelow t.forest tuple x.nodes → AreBelow t.forest tuple t.roots
    below_split id x tuple h b = elim (before_join front back id x h) as (λ _. AreBelow t.forest tuple t.roots) [
      | earlier g ↦ below_change cs k c split_state at facts id x tuple g b
      | later i e g ↦ (is_new i id x g).below tuple b
    ]

    -- whose half a number is after the split
    data IsHalfNow (n id : ℕ) : Type 0 where
      of_this : id ≡ k → length cs ≤ n → IsHalfNow n id
      of_other : (old : Combination) → slice_get cs id ≡ Some old → IsHalfOf n old.state → n < length cs → IsHalfNow n id

    half_now : (n id : ℕ) (x : Combination) → Was cs k id split_state x → IsHalfOf n x.state → IsHalfNow n id
    half_now n id x b h = elim b.state as (λ _. IsHalfNow n id) [
      | inl p ↦
          (let g : (n ≡ length cs) ⊎ (n ≡ length cs + 1) = subst (λ (z : CombinationState). IsHalfOf n z) p.1 h in
          of_this p.0 (elim g as (λ _. length cs ≤ n) [ inl e ↦ omega arith | inr e ↦ omega arith ]))
      | inr e ↦
          (let g : IsHalfOf n b.old.state = subst (λ (z : CombinationState). IsHalfOf n z) e h in
          of_other b.old b.at g (half_within cs id n b.old.nodes b.old.state (facts.each id b.old b.at) g))
    ]

    half_of : (n id : ℕ) (x : Combination) → slice_get (front ++ back) id ≡ Some x → IsHalfOf n x.state → IsHalfNow n id
    half_of n id x h g = elim (before_join front back id x h) as (λ _. IsHalfNow n id) [
      | earlier e ↦ half_now n id x (was cs k split_state id x e) g
      | later i e h' ↦ absurd (subst (λ (z : CombinationState). IsHalfOf n z) (is_new i id x h').state g)
    ]

    one_owner : (n i j : ℕ) → IsHalfNow n i → IsHalfNow n j → i ≡ j
    one_owner n i j (of_this p a) (of_this q b) = p ∙ sym q
    one_owner n i j (of_this p a) (of_other y hy gy lt) = absurd (omega (arith, a, lt))
    one_owner n i j (of_other x hx gx lt) (of_this q b) = absurd (omega (arith, b, lt))
    one_owner n i j (of_other x hx gx lt) (of_other y hy gy lt') = facts.once n i j x y hx hy gx gy

    pub split_settles : AreSettled t (front ++ back)
    split_settles = record {
      opening = keeps 0 t.roots facts.opening;
      each = each_split;
      below = below_split;
      once = λ n i j x y hx hy gx gy. one_owner n i j (half_of n i x hx gx) (half_of n j y hy gy);
    }

  cond_settles : (b : Bool) (x y : FrontierOutcome) → AreSettled t x.state.combinations → AreSettled t y.state.combinations → AreSettled t (cond b x y).state.combinations
  cond_settles true x y p q = p
  cond_settles false x y p q = q

  -- the place at which an eager step splits
  place_of : (nodes : List ℕ) (place : ℕ) → IsPairAt t nodes place → IsWidest t.forest nodes place → IsSplitPlace t.forest nodes (Some place)
  place_of nodes place p w =
      let e : p.node ≡ w.node = same_Some p.node w.node (sym p.at ∙ w.at) in
      (w, p.left, p.right, ap (λ n. children t.forest n) (sym e) ∙ p.children)

  -- two pairs at one place have the same children
  abbrev pair_with : (nodes : List ℕ) (place : ℕ) (q : ℕ × ℕ) → IsPairAt t nodes place → children_at t (slice_get nodes place) ≡ Some q → IsPairAt t nodes place
  pair_with nodes place q p h = record { node = p.node; left = q.0; right = q.1; at = p.at; children = sym (ap (λ x. children_at t x) p.at) ∙ h }

  module _ (s : FrontierState) (w : ℕ) (facts : AreSettled t s.combinations) where
    take_settles : (o u : Option ℕ) → first is_combination_pending s.combinations ≡ o → AreSettled t (taken t s w o u).state.combinations
    take_settles None None e = facts
    take_settles None (Some k) e = cond_settles (is_full t s) _ _ facts facts
    take_settles (Some k) u e =
        let f : Found is_combination_pending s.combinations k = found is_combination_pending s.combinations k e in
        cond_settles (is_full t s) _ _ facts (state_settles s.combinations k f.item (TakenBy w) f.at facts (λ n h. h) (λ new. tt))

    halved_settles : (e : FrontierEntry) (id place : ℕ) (c : Combination) (o : Option (ℕ × ℕ)) → slice_get s.combinations id ≡ Some c → IsPairAt t c.nodes place
        → NonePasses t c.nodes → IsWidest t.forest c.nodes place
        → children_at t (slice_get c.nodes place) ≡ o → AreSettled t (halved t s e id place c.nodes o).state.combinations
    halved_settles e id place c None at p none wide h = facts
    halved_settles e id place c (Some q) at p none wide h =
        split_settles s.combinations id c place at (pair_with c.nodes place q p h) none (place_of c.nodes place p wide) facts

    halved_at_settles : (e : FrontierEntry) (id place : ℕ) (c : Combination) (o : Option Combination) → slice_get s.combinations id ≡ Some c → IsPairAt t c.nodes place
        → NonePasses t c.nodes → IsWidest t.forest c.nodes place
        → slice_get s.combinations id ≡ o → AreSettled t (halved_at t s e id place o).state.combinations
    halved_at_settles e id place c None at p none wide h = facts
    halved_at_settles e id place c (Some d) at p none wide h =
        let same : c ≡ d = same_Some c d (sym at ∙ h) in
        halved_settles e id place d (children_at t (slice_get d.nodes place)) h (subst (λ (x : Combination). IsPairAt t x.nodes place) same p)
        (subst (λ (x : Combination). NonePasses t x.nodes) same none) (subst (λ (x : Combination). IsWidest t.forest x.nodes place) same wide) refl

    stepped_settles : (step : FrontierStep) → CanStep t s w step → IsEagerStep t s (record { worker = w; step = step }) → AreSettled t (stepped t s w step).state.combinations
    stepped_settles Take can eager = take_settles (first is_combination_pending s.combinations) (first is_combination_taken s.combinations) refl
    stepped_settles (Pass id time) can eager =
        cond_settles (is_full t s) _ _ facts (state_settles s.combinations id can.0 (PassedAt time) can.1.at facts (λ n h. h) (λ new. eager id can.0 refl can.1.at))
    stepped_settles (Split id place) can eager =
        let is : NonePasses t can.0.nodes × IsWidest t.forest can.0.nodes place = eager id can.0 refl can.1.at in
        cond_settles (is_full t s) _ _ facts (halved_at_settles (record { worker = w; step = Split id place }) id place can.0 (slice_get s.combinations id) can.1.at can.2 is.0 is.1 refl)
    stepped_settles (Fail id) can eager = cond_settles (is_full t s) _ _ facts (state_settles s.combinations id can.0 HasFailed can.1.at facts (λ n h. h) (λ new. can.2))

    step_by_settles : (step : FrontierStep) (o : Option ℕ) → CanStep t s w step → IsEagerStep t s (record { worker = w; step = step })
        → AreSettled t (step_by t s w step o).state.combinations
    step_by_settles step None can eager = stepped_settles step can eager
    step_by_settles step (Some id) can eager = facts

  opening_told : (id : ℕ) (x : Combination) → slice_get (fresh_combination t.roots ∷ []) id ≡ Some x → x ≡ fresh_combination t.roots
  opening_told zero x h = sym (same_Some (fresh_combination t.roots) x h)
  opening_told (suc id) x h = absurd (none-some x h)

  opening_settled : AreSettled t (opening_state t).combinations
  opening_settled = record {
    opening = record { combination = fresh_combination t.roots; at = refl; are = refl };
    each = λ id x h. subst (λ (y : Combination). IsSettled t (fresh_combination t.roots ∷ []) id y.nodes y.state) (sym (opening_told id x h)) tt;
    below = λ id x tuple h b. subst (λ (y : Combination). AreBelow t.forest tuple y.nodes) (opening_told id x h) b;
    once = λ n i j x y hx hy gx gy. absurd (subst (λ (z : Combination). IsHalfOf n z.state) (opening_told i x hx) gx);
  }

  settles_from : (es : List FrontierEntry) (s : FrontierState) → AreSettled t s.combinations → IsRunFrom t s es → AreEagerFrom t s es → AreSettled t (replay_from t s es).combinations
  settles_from [] s facts run eager = facts
  settles_from (e ∷ es) s facts run eager = settles_from es (after t s e) (step_by_settles s e.worker facts e.step (first is_failed s.combinations) run.0 eager.0) run.2 eager.1

  pub eager_settled : (es : List FrontierEntry) → IsRun t es → IsEager t es → AreSettled t (replay t es).combinations
  eager_settled es run eager = settles_from es (opening_state t) opening_settled run eager

done_by : (x : CombinationState) → is_pending_combination x ≡ false → is_taken_combination x ≡ false → is_failed_state x ≡ false → IsPassedOrSplit x
done_by Pending p q r = absurd (cc)
done_by (TakenBy w) p q r = absurd (cc)
done_by (PassedAt time) p q r = tt
done_by (SplitAt place l r) p q h = tt
done_by HasFailed p q r = absurd (cc)

-- where the state is finished, each combination passed or was split
pub finished_done : (t : FrontierSetting) (s : FrontierState) → is_finished t s ≡ true → (id : ℕ) (c : Combination) → slice_get s.combinations id ≡ Some c → IsPassedOrSplit c.state
finished_done t s h id c at =
    let none : AreNone s = finished_none t s h in
    done_by c.state (none_found is_combination_pending s.combinations none.pending id c at) (none_found is_combination_taken s.combinations none.taken id c at)
    (none_found is_failed s.combinations none.failed id c at)
