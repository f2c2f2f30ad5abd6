-- How much work a run can be: the entries that there are and those that can still come stay fewer than four for each tuple.
use Rattle.std.proofs.Common.{◌≡◌, ℕ, ◌+◌, ◌-◌, ◌*◌, ◌≤◌, Bool, true, false, cond, Option, Some, None, List, [], ◌∷◌, ◌++◌, length, refl, sym, ap, ◌∙◌, subst, arith, set}
use Rattle.std.specs.Prelude.{slice_get}
use Rattle.std.proofs.lemmas.Option.{same_Some}
use Rattle.drt_tree.specs.Tree.{IsForest, leaves}
use Rattle.drt_worklist.specs.Places.{first, changed, total}
use Rattle.drt_worklist.proofs.Lists.{Found, found, total_changed, total_join, length_join}
use Rattle.drt_worklist.proofs.Runs.{run_keeps, run_log}
use Rattle.drt_refine.specs.Below.{tuples}
use Rattle.drt_refine.specs.Combination.{Combination, fresh_combination, with_state, is_combination_pending, is_pending_combination, is_combination_taken, is_failed}
use Rattle.drt_refine.specs.Machine.{FrontierSetting, FrontierState, FrontierOutcome, is_full, taken, halved, halved_at, children_at, stepped, step_by, step_of, CanStep, IsPairAt, opening_state, after, CanEnter, replay, IsRun}
use Rattle.drt_refine.specs.Facts.{left_of, left, IsBoundedFrontier}
use Rattle.drt_refine.specs.declared.step.CombinationState.{CombinationState}
use Rattle.drt_refine.specs.declared.step.CombinationState.TheVariants.{Pending, Taken as TakenBy, Passed as PassedAt, Split as SplitAt, Failed as HasFailed}
use Rattle.drt_refine.specs.declared.step.FrontierStep.{FrontierStep}
use Rattle.drt_refine.specs.declared.step.FrontierStep.TheVariants.{Take, Pass, Split, Fail}
use Rattle.drt_refine.specs.declared.step.FrontierEntry.{FrontierEntry}
use Rattle.drt_refine.proofs.Below.{tuples_some, tuples_halved}

module _ (t : FrontierSetting) (forest : IsForest t.forest) (some : (n : ℕ) → 1 ≤ leaves t.forest n) where
  left_pending : (p : ℕ) (x : CombinationState) → is_pending_combination x ≡ true → left_of t p x ≡ 4 * p - 2
  left_pending p Pending g = refl
  left_pending p (TakenBy w) g = absurd (cc)
  left_pending p (PassedAt time) g = absurd (cc)
  left_pending p (SplitAt q l r) g = absurd (cc)
  left_pending p HasFailed g = absurd (cc)

  -- a step that is logged uses one of the entries that could still come
  module _ (s : FrontierState) (e : FrontierEntry) (combinations : List Combination) where
    more : IsBoundedFrontier t s → total (left t) combinations + 1 ≤ total (left t) s.combinations → IsBoundedFrontier t (record { combinations = combinations; log = s.log ++ e ∷ [] })
    more work a =
        let l : length (s.log ++ e ∷ []) ≡ length s.log + 1 = length_join s.log (e ∷ []) in
        let b : length s.log + total (left t) s.combinations + 2 ≤ 4 * tuples t.forest t.roots = work in
        let g : length (s.log ++ e ∷ []) + total (left t) combinations + 2 ≤ 4 * tuples t.forest t.roots = omega arith in
        g

  module _ (s : FrontierState) (w : ℕ) (bounded : IsBoundedFrontier t s) where
    either_bounded : (b : Bool) (x y : FrontierOutcome) → IsBoundedFrontier t x.state → IsBoundedFrontier t y.state → IsBoundedFrontier t (cond b x y).state
    either_bounded true x y p q = p
    either_bounded false x y p q = q

    -- one combination gets a state
    one_more : (k : ℕ) (c : Combination) (x : CombinationState) (e : FrontierEntry) → slice_get s.combinations k ≡ Some c
        → left_of t (tuples t.forest c.nodes) x + 1 ≤ left t c → IsBoundedFrontier t (record { combinations = changed k (with_state x) s.combinations; log = s.log ++ e ∷ [] })
    one_more k c x e at p =
        let a : total (left t) (changed k (with_state x) s.combinations) + left t c ≡ total (left t) s.combinations + left_of t (tuples t.forest c.nodes)
        x = total_changed (left t) k (with_state x) s.combinations c at in
        more s e (changed k (with_state x) s.combinations) bounded (omega arith)

    left_held : (c : Combination) → c.state ≡ TakenBy w → left t c ≡ 4 * tuples t.forest c.nodes - 3
    left_held c h = ap (λ x. left_of t (tuples t.forest c.nodes) x) h

    take_bounded : (o u : Option ℕ) → first is_combination_pending s.combinations ≡ o → IsBoundedFrontier t (taken t s w o u).state
    take_bounded None None e = bounded
    take_bounded None (Some k) e = either_bounded (is_full t s) _ _ bounded bounded
    take_bounded (Some k) u e =
        let f : Found is_combination_pending s.combinations k = found is_combination_pending s.combinations k e in
        let a : left t f.item ≡ 4 * tuples t.forest f.item.nodes - 2 = left_pending (tuples t.forest f.item.nodes) f.item.state f.passes in
        let p : 1 ≤ tuples t.forest f.item.nodes = tuples_some t.forest forest some f.item.nodes in
        either_bounded (is_full t s) _ _ bounded
        (one_more k f.item (TakenBy w) (record { worker = w; step = Take }) f.at
        (let g : left_of t (tuples t.forest f.item.nodes) (TakenBy w) ≡ 4 * tuples t.forest f.item.nodes - 3 = refl in omega arith))

    halved_bounded : (e : FrontierEntry) (id place : ℕ) (c : Combination) (o : Option (ℕ × ℕ)) → slice_get s.combinations id ≡ Some c → c.state ≡ TakenBy w
        → (p : IsPairAt t c.nodes place) → children_at t (slice_get c.nodes place) ≡ o → IsBoundedFrontier t (halved t s e id place c.nodes o).state
    halved_bounded e id place c None at held p h = bounded
    halved_bounded e id place c (Some q) at held p h =
        let x = SplitAt place (length s.combinations) (length s.combinations + 1) in
        let ln : List ℕ = set c.nodes place q.0 in
        let rn : List ℕ = set c.nodes place q.1 in
        let front : List Combination = changed id (with_state x) s.combinations in
        let rest : List Combination = fresh_combination ln ∷ fresh_combination rn ∷ [] in
        let a : total (left t) front + left t c ≡ total (left t) s.combinations + 0 = total_changed (left t) id (with_state x) s.combinations c at in
        let j : total (left t) (front ++ rest) ≡ total (left t) front + total (left t) rest = total_join (left t) front rest in
        let lh : left t c ≡ 4 * tuples t.forest c.nodes - 3 = left_held c held in
        let hl : tuples t.forest ln + tuples t.forest rn ≡ tuples t.forest c.nodes = tuples_halved t.forest forest some c.nodes place p.node q.0 q.1 p.at (sym (ap (λ y. children_at t y) p.at) ∙ h) in
        let p1 : 1 ≤ tuples t.forest ln = tuples_some t.forest forest some ln in
        let p2 : 1 ≤ tuples t.forest rn = tuples_some t.forest forest some rn in
        let r : total (left t) rest ≡ (4 * tuples t.forest ln - 2) + ((4 * tuples t.forest rn - 2) + 0) = refl in
        more s e (front ++ rest) bounded (omega arith)

    halved_at_bounded : (e : FrontierEntry) (id place : ℕ) (c : Combination) (o : Option Combination) → slice_get s.combinations id ≡ Some c → c.state ≡ TakenBy w
        → IsPairAt t c.nodes place → slice_get s.combinations id ≡ o → IsBoundedFrontier t (halved_at t s e id place o).state
    halved_at_bounded e id place c None at held p h = bounded
    halved_at_bounded e id place c (Some d) at held p h =
        let same : c ≡ d = same_Some c d (sym at ∙ h) in
        halved_bounded e id place d (children_at t (slice_get d.nodes place)) h (subst (λ (x : Combination). x.state ≡ TakenBy w) same held)
        (subst (λ (x : Combination). IsPairAt t x.nodes place) same p) refl

    settled_bounded : (k : ℕ) (c : Combination) (x : CombinationState) (e : FrontierEntry) → slice_get s.combinations k ≡ Some c → c.state ≡ TakenBy w
        → left_of t (tuples t.forest c.nodes) x ≡ 0 → IsBoundedFrontier t (record { combinations = changed k (with_state x) s.combinations; log = s.log ++ e ∷ [] })
    settled_bounded k c x e at held z =
        let lh : left t c ≡ 4 * tuples t.forest c.nodes - 3 = left_held c held in
        let p : 1 ≤ tuples t.forest c.nodes = tuples_some t.forest forest some c.nodes in
        one_more k c x e at (omega arith)

    stepped_bounded : (step : FrontierStep) → CanStep t s w step → IsBoundedFrontier t (stepped t s w step).state
    stepped_bounded Take can = take_bounded (first is_combination_pending s.combinations) (first is_combination_taken s.combinations) refl
    stepped_bounded (Pass id time) can = either_bounded (is_full t s) _ _ bounded (settled_bounded id can.0 (PassedAt time) (record { worker = w; step = Pass id time }) can.1.at can.1.held refl)
    stepped_bounded (Split id place) can = either_bounded (is_full t s) _ _ bounded
        (halved_at_bounded (record { worker = w; step = Split id place }) id place can.0 (slice_get s.combinations id) can.1.at can.1.held can.2 refl)
    stepped_bounded (Fail id) can = either_bounded (is_full t s) _ _ bounded (settled_bounded id can.0 HasFailed (record { worker = w; step = Fail id }) can.1.at can.1.held refl)

    step_by_bounded : (step : FrontierStep) (o : Option ℕ) → CanStep t s w step → IsBoundedFrontier t (step_by t s w step o).state
    step_by_bounded step None can = stepped_bounded step can
    step_by_bounded step (Some id) can = bounded

    pub step_bounded : (step : FrontierStep) → CanStep t s w step → IsBoundedFrontier t (step_of t s w step).state
    step_bounded step can = step_by_bounded step (first is_failed s.combinations) can

  opening_bounded : IsBoundedFrontier t (opening_state t)
  opening_bounded =
      let p : 1 ≤ tuples t.forest t.roots = tuples_some t.forest forest some t.roots in
      let e : total (left t) (opening_state t).combinations ≡ (4 * tuples t.forest t.roots - 2) + 0 = refl in
      let g : 0 + total (left t) (opening_state t).combinations + 2 ≤ 4 * tuples t.forest t.roots = omega arith in
      g

  pub run_bounded : (es : List FrontierEntry) → IsRun t es → IsBoundedFrontier t (replay t es)
  run_bounded es run = run_keeps (after t) (CanEnter t) (λ (s : FrontierState). s.log) (λ (s : FrontierState). IsBoundedFrontier t s)
      (λ s e can bounded. step_bounded s e.worker bounded e.step can) es (opening_state t) opening_bounded run

  -- a run has fewer than four entries for each tuple below the roots
  pub run_short : (es : List FrontierEntry) → IsRun t es → length es + 2 ≤ 4 * tuples t.forest t.roots
  run_short es run =
      let a : length (replay t es).log + total (left t) (replay t es).combinations + 2 ≤ 4 * tuples t.forest t.roots = run_bounded es run in
      let b : length (replay t es).log ≡ length es = ap length (run_log (after t) (CanEnter t) (λ (s : FrontierState). s.log) es (opening_state t) run) in
      omega arith
