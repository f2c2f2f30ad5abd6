-- Each step keeps the facts, whoever makes it.
use Rattle.std.proofs.Common.{◌≡◌, ℕ, suc, zero, ◌+◌, ◌⊎◌, Bool, true, false, cond, Option, Some, None, List, [], ◌∷◌, length, refl, sym, ap, ◌∙◌, subst, inl, inr, set}
use Rattle.std.specs.Prelude.{slice_get}
use Rattle.std.proofs.lemmas.Option.{none-some, same_Some}
use Rattle.drt_worklist.specs.Places.{first, changed}
use Rattle.drt_steps.specs.Time.{AreChosen}
use Rattle.drt_tree.specs.Tree.{IsForest, children}
use Rattle.drt_refine.specs.Below.{AreBelow}
use Rattle.drt_refine.specs.Combination.{Combination, fresh_combination, with_state, is_combination_pending, is_combination_taken, is_failed, is_split_state}
use Rattle.drt_refine.specs.Machine.{FrontierSetting, FrontierState, FrontierOutcome, is_full, halves, taken, halved, halved_at, children_at, stepped, step_by, step_of, CanStep, IsPairAt}
use Rattle.drt_refine.specs.Facts.{IsTrueOf, IsStanding, Facts, AreInPlace}
use Rattle.drt_refine.specs.declared.step.CombinationState.{CombinationState}
use Rattle.drt_refine.specs.declared.step.CombinationState.TheVariants.{Taken as TakenBy, Passed as PassedAt, Split as SplitAt, Failed as HasFailed}
use Rattle.drt_refine.specs.declared.step.FrontierStep.{FrontierStep}
use Rattle.drt_refine.specs.declared.step.FrontierStep.TheVariants.{Take, Pass, Split, Fail}
use Rattle.drt_refine.specs.declared.step.FrontierEntry.{FrontierEntry}
use Rattle.drt_worklist.proofs.Lists.{Before, before_change, After, after_change, earlier, later, before_join, after_join, after_end, Found, found}
use Rattle.drt_refine.proofs.Below.{below_half, chosen_halves, length_set}

module _ (t : FrontierSetting) (forest : IsForest t.forest) where
  -- the combination at k gets a state that is true of its nodes
  module _ (combinations : List Combination) (k : ℕ) (c : Combination) (s : CombinationState) (at : slice_get combinations k ≡ Some c) (is : IsTrueOf t c.nodes s) (facts : Facts t combinations) where
    told : (id : ℕ) (x : Combination) → slice_get (changed k (with_state s) combinations) id ≡ Some x → IsTrueOf t x.nodes x.state × (AreInPlace t x.nodes)
    told id x h =
        let b : Before k (with_state s) combinations id x = before_change k (with_state s) combinations id x h in
        let n : AreInPlace t b.old.nodes = facts.nodes id b.old b.at in
        elim b.is [
          | inl p ↦
              (let same : b.old ≡ c = same_Some b.old c (sym b.at ∙ (ap (λ i. slice_get combinations i) p.0 ∙ at)) in
              subst (λ (y : Combination). IsTrueOf t y.nodes y.state × (AreInPlace t y.nodes)) (sym p.1)
              (subst (λ (y : Combination). IsTrueOf t y.nodes s) (sym same) is, n))
          | inr e ↦ subst (λ (y : Combination). IsTrueOf t y.nodes y.state × (AreInPlace t y.nodes)) (sym e) (facts.states id b.old b.at, n)
        ]

  -- the combination at k gets a state that isn't Split
  module _ (combinations : List Combination) (k : ℕ) (c : Combination) (s : CombinationState) (at : slice_get combinations k ≡ Some c) (stands : is_split_state s ≡ false)
      (is : IsTrueOf t c.nodes s) (facts : Facts t combinations) where
    still : (tuple : List ℕ) → IsStanding t combinations tuple → IsStanding t (changed k (with_state s) combinations) tuple
    still tuple o =
        let a : After k (with_state s) combinations o.id o.combination = after_change k (with_state s) combinations o.id o.combination o.at in
        let keeps : (is_split_state a.new.state ≡ false) × (AreBelow t.forest tuple a.new.nodes) =
        elim a.is [
          | inl p ↦ subst (λ (x : Combination). (is_split_state x.state ≡ false) × (AreBelow t.forest tuple x.nodes)) (sym p.1) (stands, o.below)
          | inr e ↦ subst (λ (x : Combination). (is_split_state x.state ≡ false) × (AreBelow t.forest tuple x.nodes)) (sym e) (o.stands, o.below)
        ] in
        record { id = o.id; combination = a.new; at = a.at; stands = keeps.0; below = keeps.1 }

    pub state_keeps : Facts t (changed k (with_state s) combinations)
    state_keeps = record {
      covers = λ tuple h. still tuple (facts.covers tuple h);
      states = λ id x h. (told combinations k c s at is facts id x h).0;
      nodes = λ id x h. (told combinations k c s at is facts id x h).1;
    }

  -- the combination at k is split at a pair
  module _ (combinations : List Combination) (k : ℕ) (c : Combination) (place n l r : ℕ) (at : slice_get combinations k ≡ Some c)
      (node_at : slice_get c.nodes place ≡ Some n) (pair_is : children t.forest n ≡ Some (l, r)) (facts : Facts t combinations) where
    halved_standing : (tuple : List ℕ) → AreBelow t.forest tuple (set c.nodes place l) ⊎ AreBelow t.forest tuple (set c.nodes place r)
        → IsStanding t (halves combinations k place (set c.nodes place l) (set c.nodes place r)) tuple
    halved_standing tuple (inl u) = record {
      id = length (changed k (with_state (SplitAt place (length combinations) (length combinations + 1))) combinations) + 0;
      combination = fresh_combination (set c.nodes place l);
      at = after_end (changed k (with_state (SplitAt place (length combinations) (length combinations + 1))) combinations)
          (fresh_combination (set c.nodes place l) ∷ fresh_combination (set c.nodes place r) ∷ []) 0 (fresh_combination (set c.nodes place l)) refl;
      stands = refl;
      below = u;
    }
    halved_standing tuple (inr u) = record {
      id = length (changed k (with_state (SplitAt place (length combinations) (length combinations + 1))) combinations) + 1;
      combination = fresh_combination (set c.nodes place r);
      at = after_end (changed k (with_state (SplitAt place (length combinations) (length combinations + 1))) combinations)
          (fresh_combination (set c.nodes place l) ∷ fresh_combination (set c.nodes place r) ∷ []) 1 (fresh_combination (set c.nodes place r)) refl;
      stands = refl;
      below = u;
    }

    split_still : (tuple : List ℕ) → IsStanding t combinations tuple → IsStanding t (halves combinations k place (set c.nodes place l) (set c.nodes place r)) tuple
    split_still tuple o =
        let s = SplitAt place (length combinations) (length combinations + 1) in
        let a : After k (with_state s) combinations o.id o.combination = after_change k (with_state s) combinations o.id o.combination o.at in
        elim a.is [
          | inl p ↦
              (let same : o.combination ≡ c = same_Some o.combination c (sym o.at ∙ (ap (λ i. slice_get combinations i) p.0 ∙ at)) in
              halved_standing tuple (below_half t.forest tuple c.nodes place n l r node_at pair_is (subst (λ (x : Combination). AreBelow t.forest tuple x.nodes) same o.below)))
          | inr e ↦ record {
            id = o.id;
            combination = a.new;
            at = after_join (changed k (with_state s) combinations) (fresh_combination (set c.nodes place l) ∷ fresh_combination (set c.nodes place r) ∷ []) o.id a.new a.at;
            stands = subst (λ (x : Combination). is_split_state x.state ≡ false) (sym e) o.stands;
            below = subst (λ (x : Combination). AreBelow t.forest tuple x.nodes) (sym e) o.below;
          }
        ]

    nodes_of : AreInPlace t c.nodes
    nodes_of = facts.nodes k c at

    in_place : AreInPlace t (set c.nodes place l) × AreInPlace t (set c.nodes place r)
    in_place =
        let two : AreChosen t.deadline t.forest.pool (set c.nodes place l) × AreChosen t.deadline t.forest.pool (set c.nodes place r) = chosen_halves t.forest forest
        t.deadline c.nodes place n l r node_at pair_is nodes_of.0 in
        ((two.0, length_set c.nodes place l ∙ nodes_of.1), (two.1, length_set c.nodes place r ∙ nodes_of.1))

    told_new : (i : ℕ) (x : Combination) → slice_get (fresh_combination (set c.nodes place l) ∷ fresh_combination (set c.nodes place r) ∷ []) i ≡ Some x
        → IsTrueOf t x.nodes x.state × (AreInPlace t x.nodes)
    told_new zero x h = subst (λ (y : Combination). IsTrueOf t y.nodes y.state × (AreInPlace t y.nodes)) (same_Some (fresh_combination (set c.nodes place l)) x h)
        (tt, in_place.0)
    told_new (suc zero) x h = subst (λ (y : Combination). IsTrueOf t y.nodes y.state × (AreInPlace t y.nodes)) (same_Some (fresh_combination (set c.nodes place r)) x h)
        (tt, in_place.1)
    told_new (suc (suc i)) x h = absurd (none-some x h)

    split_told : (id : ℕ) (x : Combination) → slice_get (halves combinations k place (set c.nodes place l) (set c.nodes place r)) id ≡ Some x → IsTrueOf t x.nodes x.state × (AreInPlace t x.nodes)
    split_told id x h =
        let s = SplitAt place (length combinations) (length combinations + 1) in
        elim (before_join (changed k (with_state s) combinations) (fresh_combination (set c.nodes place l) ∷ fresh_combination (set c.nodes place r) ∷ []) id x h) [
          | earlier g ↦ told combinations k c s at tt facts id x g
          | later i e g ↦ told_new i x g
        ]

    pub split_keeps : Facts t (halves combinations k place (set c.nodes place l) (set c.nodes place r))
    split_keeps = record {
      covers = λ tuple h. split_still tuple (facts.covers tuple h);
      states = λ id x h. (split_told id x h).0;
      nodes = λ id x h. (split_told id x h).1;
    }

  cond_keeps : (b : Bool) (x y : FrontierOutcome) → Facts t x.state.combinations → Facts t y.state.combinations → Facts t (cond b x y).state.combinations
  cond_keeps true x y p q = p
  cond_keeps false x y p q = q

  module _ (s : FrontierState) (w : ℕ) (facts : Facts t s.combinations) where
    take_keeps : (o u : Option ℕ) → first is_combination_pending s.combinations ≡ o → Facts t (taken t s w o u).state.combinations
    take_keeps None None e = facts
    take_keeps None (Some k) e = cond_keeps (is_full t s) _ _ facts facts
    take_keeps (Some k) u e =
        let f : Found is_combination_pending s.combinations k = found is_combination_pending s.combinations k e in
        cond_keeps (is_full t s) _ _ facts (state_keeps s.combinations k f.item (TakenBy w) f.at refl tt facts)

    halved_keeps : (e : FrontierEntry) (id place : ℕ) (c : Combination) (o : Option (ℕ × ℕ)) → slice_get s.combinations id ≡ Some c → (p : IsPairAt t c.nodes place)
        → children_at t (slice_get c.nodes place) ≡ o → Facts t (halved t s e id place c.nodes o).state.combinations
    halved_keeps e id place c None at p h = facts
    halved_keeps e id place c (Some q) at p h =
        split_keeps s.combinations id c place p.node q.0 q.1 at p.at (sym (ap (λ x. children_at t x) p.at) ∙ h) facts

    halved_at_keeps : (e : FrontierEntry) (id place : ℕ) (c : Combination) (o : Option Combination) → slice_get s.combinations id ≡ Some c → IsPairAt t c.nodes place
        → slice_get s.combinations id ≡ o → Facts t (halved_at t s e id place o).state.combinations
    halved_at_keeps e id place c None at p h = facts
    halved_at_keeps e id place c (Some d) at p h =
        let same : c ≡ d = same_Some c d (sym at ∙ h) in
        halved_keeps e id place d (children_at t (slice_get d.nodes place)) h (subst (λ (x : Combination). IsPairAt t x.nodes place) same p) refl

    stepped_keeps : (step : FrontierStep) → CanStep t s w step → Facts t (stepped t s w step).state.combinations
    stepped_keeps Take can = take_keeps (first is_combination_pending s.combinations) (first is_combination_taken s.combinations) refl
    stepped_keeps (Pass id time) can = cond_keeps (is_full t s) _ _ facts (state_keeps s.combinations id can.0 (PassedAt time) can.1.at refl can.2 facts)
    stepped_keeps (Split id place) can = cond_keeps (is_full t s) _ _ facts
        (halved_at_keeps (record { worker = w; step = Split id place }) id place can.0 (slice_get s.combinations id) can.1.at can.2 refl)
    stepped_keeps (Fail id) can = cond_keeps (is_full t s) _ _ facts (state_keeps s.combinations id can.0 HasFailed can.1.at refl can.2 facts)

    step_by_keeps : (step : FrontierStep) (o : Option ℕ) → CanStep t s w step → Facts t (step_by t s w step o).state.combinations
    step_by_keeps step None can = stepped_keeps step can
    step_by_keeps step (Some id) can = facts

    pub step_keeps : (step : FrontierStep) → CanStep t s w step → Facts t (step_of t s w step).state.combinations
    step_keeps step can = step_by_keeps step (first is_failed s.combinations) can
