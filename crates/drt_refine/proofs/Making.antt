-- A step by its outcome, and that a step keeps what a frontier is.
use Rattle.std.proofs.Common.{◌≡◌, ℕ, Bool, true, false, cond, Option, Some, None, List, [], ◌∷◌, ◌++◌, length, refl, sym, ap, ◌∙◌, subst}
use Rattle.std.specs.Prelude.{slice_get, nat_le}
use Rattle.drt_tree.specs.Tree.{Plain}
use Rattle.drt_worklist.specs.Places.{first, changed}
use Rattle.drt_worklist.proofs.Runs.{run_join, replay_join}
use Rattle.drt_refine.specs.Combination.{Combination, with_state, is_combination_pending, is_combination_taken, is_failed}
use Rattle.drt_refine.specs.Machine.{FrontierSetting, FrontierState, FrontierOutcome, taken, stepped, step_by, step_of, is_full, unchanged, logged_outcome, replay, IsRun, opening_state, after, CanEnter, halved, halved_at, children_at, CanStep}
use Rattle.drt_refine.specs.Facts.{Facts}
use Rattle.drt_refine.specs.View.{FrontierView, setting_of, state_of, outcome, moved, IsFrontierStep, IsFrontier, CanApply}
use Rattle.drt_refine.specs.declared.step.CombinationState.{CombinationState}
use Rattle.drt_refine.specs.declared.step.FrontierStep.{FrontierStep}
use Rattle.drt_refine.specs.declared.step.FrontierStep.TheVariants.{Take, Pass, Split, Fail}
use Rattle.drt_refine.specs.declared.step.FrontierReply.{FrontierReply}
use Rattle.drt_refine.specs.declared.step.FrontierReply.TheVariants.{Spent}
use Rattle.drt_refine.specs.declared.step.FrontierEntry.{FrontierEntry}
use Rattle.drt_refine.proofs.Runs.{run_facts}

module _ (p : Plain) (old : FrontierView) (w : ℕ) where
  pub made : (new : FrontierView) (step : FrontierStep) (reply : FrontierReply) (out : FrontierOutcome) → outcome p old w step ≡ out → new ≡ moved old out.state
      → reply ≡ out.reply → IsFrontierStep p old new w step reply
  made new step reply out e n r = record { state = n ∙ ap (λ (x : FrontierOutcome). moved old x.state) (sym e); reply_is = r ∙ ap (λ (x : FrontierOutcome). x.reply) (sym e) }

  -- a step of a combination that the worker settles
  pub settled : (new : FrontierView) (step : FrontierStep) (reply : FrontierReply) (k : ℕ) (x : CombinationState) → first is_failed old.combinations ≡ None
      → false ≡ nat_le old.budget (length old.log) →
      stepped (setting_of p old) (state_of old) w step ≡ cond (nat_le old.budget (length old.log)) (unchanged (state_of old) Spent)
      (logged_outcome (state_of old) (record { worker = w; step = step }) (changed k (with_state x) old.combinations) reply) →
      new ≡ moved old (record { combinations = changed k (with_state x) old.combinations; log = old.log ++ record { worker = w; step = step } ∷ [] }) → IsFrontierStep p old new w step reply
  settled new step reply k x f h e n = made new step reply (logged_outcome (state_of old) (record { worker = w; step = step }) (changed k (with_state x) old.combinations) reply)
      (ap (λ y. step_by (setting_of p old) (state_of old) w step y) f
      ∙ (e ∙ ap (λ y. cond y (unchanged (state_of old) Spent)
      (logged_outcome (state_of old) (record { worker = w; step = step }) (changed k (with_state x) old.combinations) reply)) (sym h))) n refl

-- a step changes nothing, or adds itself to the log
pub data Logs (s : FrontierState) (e : FrontierEntry) (x : FrontierState) : Type 0 where
  same : x ≡ s → Logs s e x
  adds : x.log ≡ s.log ++ e ∷ [] → Logs s e x

module _ (t : FrontierSetting) (s : FrontierState) (w : ℕ) where
  cond_logs : (e : FrontierEntry) (b : Bool) (x y : FrontierOutcome) → Logs s e x.state → Logs s e y.state → Logs s e (cond b x y).state
  cond_logs e true x y p q = p
  cond_logs e false x y p q = q

  take_logs : (o u : Option ℕ) → Logs s (record { worker = w; step = Take }) (taken t s w o u).state
  take_logs None None = same refl
  take_logs None (Some k) = cond_logs (record { worker = w; step = Take }) (is_full t s) _ _ (same refl) (same refl)
  take_logs (Some k) u = cond_logs (record { worker = w; step = Take }) (is_full t s) _ _ (same refl) (adds refl)

  halved_logs : (e : FrontierEntry) (id place : ℕ) (nodes : List ℕ) (o : Option (ℕ × ℕ)) → Logs s e (halved t s e id place nodes o).state
  halved_logs e id place nodes None = same refl
  halved_logs e id place nodes (Some q) = adds refl

  halved_at_logs : (e : FrontierEntry) (id place : ℕ) (o : Option Combination) → Logs s e (halved_at t s e id place o).state
  halved_at_logs e id place None = same refl
  halved_at_logs e id place (Some c) = halved_logs e id place c.nodes (children_at t (slice_get c.nodes place))

  stepped_logs : (step : FrontierStep) → Logs s (record { worker = w; step = step }) (stepped t s w step).state
  stepped_logs Take = take_logs (first is_combination_pending s.combinations) (first is_combination_taken s.combinations)
  stepped_logs (Pass id time) = cond_logs (record { worker = w; step = Pass id time }) (is_full t s) _ _ (same refl) (adds refl)
  stepped_logs (Split id place) = cond_logs (record { worker = w; step = Split id place }) (is_full t s) _ _ (same refl)
      (halved_at_logs (record { worker = w; step = Split id place }) id place (slice_get s.combinations id))
  stepped_logs (Fail id) = cond_logs (record { worker = w; step = Fail id }) (is_full t s) _ _ (same refl) (adds refl)

  by_logs : (step : FrontierStep) (o : Option ℕ) → Logs s (record { worker = w; step = step }) (step_by t s w step o).state
  by_logs step None = stepped_logs step
  by_logs step (Some id) = same refl

  pub step_logs : (step : FrontierStep) → Logs s (record { worker = w; step = step }) (step_of t s w step).state
  step_logs step = by_logs step (first is_failed s.combinations)

-- a step keeps what a frontier over the forest is
module _ (p : Plain) (old : FrontierView) (w : ℕ) (step : FrontierStep) (front : IsFrontier p old) (can : CanApply p old w step) where
  kept_by : (x : FrontierState) → x ≡ (outcome p old w step).state → Logs (state_of old) (record { worker = w; step = step }) x → IsFrontier p (moved old x)
  kept_by x h (same e) = subst (λ (s : FrontierState). IsFrontier p (moved old s)) (sym e) front
  kept_by x h (adds e) =
      let t : FrontierSetting = setting_of p old in
      let entry : FrontierEntry = record { worker = w; step = step } in
      let can_then : CanStep t (replay t old.log) w step = subst (λ (s : FrontierState). CanStep t s w step) front.state can in
      let logs : (step_of t (state_of old) w step).state.log ≡ (state_of old).log ++ entry ∷ [] = ap (λ (s : FrontierState). s.log) (sym h) ∙ e in
      let logs_then : (step_of t (replay t old.log) w step).state.log ≡ (replay t old.log).log ++ entry ∷ [] = subst
      (λ (s : FrontierState). (step_of t s w step).state.log ≡ s.log ++ entry ∷ []) front.state logs in
      let run : IsRun t (old.log ++ entry ∷ []) = run_join (after t) (CanEnter t) (λ (s : FrontierState). s.log) old.log (entry ∷ []) (opening_state t) front.run (can_then, logs_then, tt) in
      let more : replay t (old.log ++ entry ∷ []) ≡ (step_of t (replay t old.log) w step).state = replay_join (after t) old.log (entry ∷ []) (opening_state t) in
      record {
        forest = front.forest;
        roots = front.roots;
        run = subst (λ (l : List FrontierEntry). IsRun t l) (sym e) run;
        state = h ∙ (ap (λ (s : FrontierState). (step_of t s w step).state) front.state ∙ (sym more ∙ ap (λ l. replay t l) (sym e)));
      }

  pub step_kept : (new : FrontierView) (reply : FrontierReply) → IsFrontierStep p old new w step reply → IsFrontier p new
  step_kept new reply h = subst (λ (v : FrontierView). IsFrontier p v) (sym h.state) (kept_by (outcome p old w step).state refl (step_logs (setting_of p old) (state_of old) w step))

-- the facts of a frontier
pub frontier_facts : (p : Plain) (v : FrontierView) → IsFrontier p v → Facts (setting_of p v) v.combinations
frontier_facts p v front = subst (λ (s : FrontierState). Facts (setting_of p v) s.combinations) (sym front.state) (run_facts (setting_of p v) front.forest front.roots v.log front.run)
