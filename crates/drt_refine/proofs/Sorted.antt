-- The states as the code keeps them: which is the first pending one, and what taking, settling and pushing keep.
use Rattle.std.proofs.Common.{◌≡◌, ℕ, suc, zero, ◌+◌, ◌<◌, ◌≤◌, ◌⊎◌, Bool, true, false, Option, Some, None, List, [], ◌∷◌, ◌++◌, length, refl, sym, ap, ◌∙◌, arith, set, inl, inr, length-append}
use Rattle.std.specs.Prelude.{slice_get, not, ◌==◌}
use Rattle.std.specs.List.{filter}
use Rattle.std.proofs.lemmas.Option.{none-some, same_Some, slice_get_within}
use Rattle.drt_worklist.specs.Places.{first, places}
use Rattle.drt_worklist.proofs.Lists.{Found, found, first_is, first_none, get_within, earlier, later, before_join}
use Rattle.drt_worklist.proofs.Places.{places_taken, places_dropped, places_more, places_few}
use Rattle.drt_worklist.proofs.Writes.{set_at, length_set, first_same, first_new, first_more}
use Rattle.drt_refine.specs.Combination.{is_pending_combination, is_taken_combination, is_held_state, is_failed_state}
use Rattle.drt_refine.specs.States.{AreSorted}
use Rattle.drt_refine.specs.declared.step.CombinationState.{CombinationState}
use Rattle.drt_refine.specs.declared.step.CombinationState.TheVariants.{Pending, Taken, Passed, Split, Failed}

pub pending_untaken : (s : CombinationState) → is_pending_combination s ≡ true → is_taken_combination s ≡ false
pending_untaken Pending h = refl
pending_untaken (Taken w) h = absurd (cc)
pending_untaken (Passed t) h = absurd (cc)
pending_untaken (Split p l r) h = absurd (cc)
pending_untaken Failed h = absurd (cc)

pub pending_unfailed : (s : CombinationState) → is_pending_combination s ≡ true → is_failed_state s ≡ false
pending_unfailed Pending h = refl
pending_unfailed (Taken w) h = absurd (cc)
pending_unfailed (Passed t) h = absurd (cc)
pending_unfailed (Split p l r) h = absurd (cc)
pending_unfailed Failed h = absurd (cc)

pub taken_unfailed : (s : CombinationState) → is_taken_combination s ≡ true → is_failed_state s ≡ false
taken_unfailed Pending h = absurd (cc)
taken_unfailed (Taken w) h = refl
taken_unfailed (Passed t) h = absurd (cc)
taken_unfailed (Split p l r) h = absurd (cc)
taken_unfailed Failed h = absurd (cc)

taken_unpending : (s : CombinationState) → is_taken_combination s ≡ true → is_pending_combination s ≡ false
taken_unpending Pending h = absurd (cc)
taken_unpending (Taken w) h = refl
taken_unpending (Passed t) h = absurd (cc)
taken_unpending (Split p l r) h = absurd (cc)
taken_unpending Failed h = absurd (cc)

pub held_taken : (w : ℕ) (s : CombinationState) → is_held_state w s ≡ true → is_taken_combination s ≡ true
held_taken w Pending h = absurd (cc)
held_taken w (Taken v) h = refl
held_taken w (Passed t) h = absurd (cc)
held_taken w (Split p l r) h = absurd (cc)
held_taken w Failed h = absurd (cc)

pub clash : (b : Bool) → b ≡ true → b ≡ false → ⊥
clash true h g = absurd (cc)
clash false h g = absurd (cc)

sides : (a b : ℕ) → (a < b) ⊎ (b ≤ a)
sides a b = grind arith

module _ (items : List CombinationState) (next : ℕ) (taken : List ℕ) (failed : Option ℕ) (sorted : AreSorted items next taken failed) where
  pub pending_first : next < length items → Some next ≡ first is_pending_combination items
  pending_first lt =
      let x : (s : CombinationState) × (slice_get items next ≡ Some s) = get_within items next lt in
      first_is is_pending_combination items next x.0 x.1 (sorted.after next x.0 (omega arith) x.1) (λ k y less at. sorted.before k y less at)

  pub pending_none : length items ≤ next → None ≡ first is_pending_combination items
  pending_none le = first_none is_pending_combination items (λ k y less at. sorted.before k y (omega arith) at)

  -- the first pending one is the next
  pub next_is : (id : ℕ) → first is_pending_combination items ≡ Some id → (id ≡ next) × (id < length items)
  next_is id h =
      let f : Found is_pending_combination items id = found is_pending_combination items id h in
      let lt : id < length items = slice_get_within items id f.item f.at in
      let ge : next ≤ id = elim (sides id next) as (λ _. next ≤ id) [ inl less ↦ absurd (clash (is_pending_combination f.item) f.passes (sorted.before id f.item less f.at)) | inr more ↦ more ] in
      (same_Some id next (sym h ∙ sym (pending_first (omega arith))), lt)

  module _ (id w : ℕ) (h : first is_pending_combination items ≡ Some id) where
    is : (id ≡ next) × (id < length items)
    is = next_is id h

    -- the first pending one is taken
    pub places_after : places is_taken_combination (set items id (Taken w)) ≡ taken ++ id ∷ []
    places_after =
        let e : id ≡ next = is.0 in
        places_taken is_taken_combination items id (Taken w) is.1 refl (λ k s le at. pending_untaken s (sorted.after k s (omega arith) at))
        ∙ ap (λ l. l ++ id ∷ []) (sym sorted.taken_are)

    pub take_room : length taken + 1 ≤ length items
    take_room =
        let a : length (places is_taken_combination (set items id (Taken w))) ≤ length (set items id (Taken w)) = places_few is_taken_combination (set items id (Taken w)) in
        let b : length (places is_taken_combination (set items id (Taken w))) ≡ length taken + 1 = ap length places_after ∙ length-append taken (id ∷ []) in
        let c : length (set items id (Taken w)) ≡ length items = length_set items id (Taken w) in
        omega arith

    pub take_sorted : AreSorted (set items id (Taken w)) (next + 1) (taken ++ id ∷ []) failed
    take_sorted =
        let e : id ≡ next = is.0 in
        let lt : id < length items = is.1 in
        let f : Found is_pending_combination items id = found is_pending_combination items id h in
        record {
          within = let l : length (set items id (Taken w)) ≡ length items = length_set items id (Taken w) in omega arith;
          before = λ k s less at. elim (set_at items id (Taken w) k s at) as (λ _. is_pending_combination s ≡ false) [
            | inl p ↦ ap is_pending_combination p.1
            | inr q ↦ (let ne : k ≡ id → ⊥ = q.0 in sorted.before k s (elim (sides k next) as (λ _. k < next) [ inl l ↦ l | inr m ↦ absurd (ne (omega arith)) ]) q.1)
          ];
          after = λ k s more at. elim (set_at items id (Taken w) k s at) as (λ _. is_pending_combination s ≡ true) [
            | inl p ↦ (let g : k ≡ id = p.0 in absurd (omega arith))
            | inr q ↦ sorted.after k s (omega arith) q.1
          ];
          taken_are = sym places_after;
          failed_is = sorted.failed_is ∙ sym (first_same is_failed_state items id f.item (Taken w) f.at (pending_unfailed f.item f.passes) refl);
        }

  module _ (id : ℕ) (s state : CombinationState) (at_id : slice_get items id ≡ Some s) (was : is_taken_combination s ≡ true)
      (unpending : is_pending_combination state ≡ false) (untaken : is_taken_combination state ≡ false) where
    early : id < next
    early = elim (sides id next) as (λ _. id < next) [ inl less ↦ less | inr more ↦ absurd (clash (is_pending_combination s) (sorted.after id s more at_id) (taken_unpending s was)) ]

    -- a taken one is settled
    settle_sorted : (now : Option ℕ) → now ≡ first is_failed_state (set items id state) → AreSorted (set items id state) next (filter (λ k. not (k == id)) taken) now
    settle_sorted now failed_now =
        let lt : id < next = early in
        record {
          within = let l : length (set items id state) ≡ length items = length_set items id state in let g : next ≤ length items = sorted.within in omega arith;
          before = λ k x less at. elim (set_at items id state k x at) as (λ _. is_pending_combination x ≡ false) [
            | inl p ↦ ap is_pending_combination p.1 ∙ unpending
            | inr q ↦ sorted.before k x less q.1
          ];
          after = λ k x more at. elim (set_at items id state k x at) as (λ _. is_pending_combination x ≡ true) [
            | inl p ↦ (let g : k ≡ id = p.0 in absurd (omega arith))
            | inr q ↦ sorted.after k x more q.1
          ];
          taken_are = ap (λ l. filter (λ k. not (k == id)) l) sorted.taken_are ∙ sym (places_dropped is_taken_combination items id state untaken);
          failed_is = failed_now;
        }

    pub settle_unfailed : is_failed_state state ≡ false → AreSorted (set items id state) next (filter (λ k. not (k == id)) taken) failed
    settle_unfailed e = settle_sorted failed (sorted.failed_is ∙ sym (first_same is_failed_state items id s state at_id (taken_unfailed s was) e))

    pub settle_failed : is_failed_state state ≡ true → first is_failed_state items ≡ None → AreSorted (set items id state) next (filter (λ k. not (k == id)) taken) (Some id)
    settle_failed e none = settle_sorted (Some id) (first_new is_failed_state items id state (slice_get_within items id s at_id) none e)

  pub push_sorted : AreSorted (items ++ Pending ∷ []) next taken failed
  push_sorted =
      let w : next ≤ length items = sorted.within in
      let l : length (items ++ Pending ∷ []) ≡ length items + 1 = length-append items (Pending ∷ []) in
      record {
        within = omega arith;
        before = λ k s less at. elim (before_join items (Pending ∷ []) k s at) as (λ _. is_pending_combination s ≡ false) [
          | earlier old ↦ sorted.before k s less old
          | later i e new ↦ absurd (omega arith)
        ];
        after = λ k s more at. elim (before_join items (Pending ∷ []) k s at) as (λ _. is_pending_combination s ≡ true) [
          | earlier old ↦ sorted.after k s more old
          | later i e new ↦ last i s new
        ];
        taken_are = sorted.taken_are ∙ sym (places_more is_taken_combination items Pending refl);
        failed_is = sorted.failed_is ∙ sym (first_more is_failed_state items Pending refl);
      }
    where
      last : (i : ℕ) (s : CombinationState) → slice_get (Pending ∷ []) i ≡ Some s → is_pending_combination s ≡ true
      last zero s h = sym (ap is_pending_combination (same_Some Pending s h))
      last (suc i) s h = absurd (none-some s h)
