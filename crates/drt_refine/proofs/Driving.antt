-- What a driver's turn does, and how turns add up.
use Rattle.std.proofs.Common.{◌≡◌, ℕ, ◌<◌, ◌≤◌, Bool, true, false, cond, Option, Some, None, List, [], ◌∷◌, ◌++◌, length, refl, sym, ap, ◌∙◌, subst, arith, append_assoc, length-append}
use Rattle.std.specs.Prelude.{slice_get, is_none, ◌&&◌}
use Rattle.std.proofs.lemmas.List.{append-nil}
use Rattle.std.proofs.lemmas.Option.{none-some, same_Some, slice_get_within}
use Rattle.std.proofs.lemmas.Bool.{leb-true, leb-false}
use Rattle.drt_tree.specs.Tree.{Plain}
use Rattle.drt_worklist.specs.Places.{first, changed}
use Rattle.drt_worklist.specs.Runs.{AllAlong, IsRunFrom as IsRunBy}
use Rattle.drt_worklist.proofs.Runs.{replay_join, along_join, run_join}
use Rattle.drt_worklist.proofs.Writes.{changed_set, first_new}
use Rattle.drt_refine.specs.Combination.{Combination, with_state, is_combination_pending, is_combination_taken, is_failed}
use Rattle.drt_refine.specs.Machine.{FrontierSetting, FrontierState, FrontierOutcome, is_full, unchanged, taken, halved, halved_at, children_at, stepped, step_by, step_of, CanStep, IsPairAt, after, CanEnter, replay_from, opening_state, is_finished}
use Rattle.drt_refine.specs.Eager.{IsEagerStep, IsEager}
use Rattle.drt_refine.specs.View.{FrontierView, setting_of, state_of, moved, CanApply, outcome, IsFrontierStep, IsFrontier}
use Rattle.drt_refine.specs.Drive.{IsDriven, IsTurn, DrivesFrontier, StopsAt, ends_frontier, FrontierTurn}
use Rattle.drt_refine.specs.declared.step.CombinationState.TheVariants.{Failed as HasFailed}
use Rattle.drt_refine.specs.declared.step.FrontierStep.{FrontierStep}
use Rattle.drt_refine.specs.declared.step.FrontierStep.TheVariants.{Take, Pass, Split, Fail}
use Rattle.drt_refine.specs.declared.step.FrontierReply.{FrontierReply}
use Rattle.drt_refine.specs.declared.step.FrontierReply.TheVariants.{Spent}
use Rattle.drt_refine.specs.declared.step.FrontierEntry.{FrontierEntry}

and_false : (b : Bool) → (b && false) ≡ false
and_false true = refl
and_false false = refl

true_not_false : (b : Bool) → b ≡ true → b ≡ false → ⊥
true_not_false true h g = absurd (cc)
true_not_false false h g = absurd (cc)

module _ (t : FrontierSetting) where
  -- The step stopped where it was, or its entry was added. Where its reply ends a driver's work, it has its cause.
  pub data Effect (s : FrontierState) (e : FrontierEntry) (o : FrontierOutcome) : Type 0 where
    stood : o.state ≡ s → ends_frontier o.reply ≡ true → StopsAt t s o.reply → Effect s e o
    went : length s.log < t.budget → o.state.log ≡ s.log ++ e ∷ [] → (ends_frontier o.reply ≡ true → StopsAt t o.state o.reply) → Effect s e o

  never : (b : Bool) (P : Type 0) → b ≡ false → b ≡ true → P
  never b P h g = absurd (true_not_false b g h)

  module _ (s : FrontierState) (e : FrontierEntry) (within : length s.log ≤ t.budget) (unfailed : first is_failed s.combinations ≡ None) where
    -- a step that is refused where the log is full
    effect_full : (b : Bool) (o : FrontierOutcome) → is_full t s ≡ b → is_finished t s ≡ false → (length s.log < t.budget → Effect s e o) → Effect s e (cond b (unchanged s Spent) o)
    effect_full true o h unfinished go = stood refl refl
        (record { full = (let le : t.budget ≤ length s.log = leb-true t.budget (length s.log) h in omega arith); unfinished = unfinished; unfailed = unfailed })
    effect_full false o h unfinished go = go (leb-false t.budget (length s.log) h)

    pending_unfinished : (k : ℕ) → first is_combination_pending s.combinations ≡ Some k → is_finished t s ≡ false
    pending_unfinished k h = ap (λ o. is_none o && (is_none (first is_combination_taken s.combinations) && is_none (first is_failed s.combinations))) h

    taken_unfinished : (k : ℕ) → first is_combination_taken s.combinations ≡ Some k → is_finished t s ≡ false
    taken_unfinished k h = ap (λ o. is_none (first is_combination_pending s.combinations) && (is_none o && is_none (first is_failed s.combinations))) h
        ∙ and_false (is_none (first is_combination_pending s.combinations))

    none_finished : first is_combination_pending s.combinations ≡ None → first is_combination_taken s.combinations ≡ None → is_finished t s ≡ true
    none_finished p q = ap (λ o. is_none o && (is_none (first is_combination_taken s.combinations) && is_none (first is_failed s.combinations))) p
        ∙ (ap (λ o. is_none o && is_none (first is_failed s.combinations)) q ∙ ap (λ o. is_none o) unfailed)

    halved_effect : (id place : ℕ) (c : Combination) (o : Option (ℕ × ℕ)) (p : IsPairAt t c.nodes place) → children_at t (slice_get c.nodes place) ≡ o
        → length s.log < t.budget → Effect s e (halved t s e id place c.nodes o)
    halved_effect id place c None p h lt =
        let q : ℕ × ℕ = (p.left, p.right) in
        absurd (none-some q (sym h ∙ (ap (λ o. children_at t o) p.at ∙ p.children)))
    halved_effect id place c (Some q) p h lt = went lt refl (λ g. never false _ refl g)

    halved_at_effect : (id place : ℕ) (c : Combination) (o : Option Combination) → slice_get s.combinations id ≡ Some c → IsPairAt t c.nodes place
        → slice_get s.combinations id ≡ o → length s.log < t.budget → Effect s e (halved_at t s e id place o)
    halved_at_effect id place c None at p h lt = absurd (none-some c (sym h ∙ at))
    halved_at_effect id place c (Some d) at p h lt =
        let same : c ≡ d = same_Some c d (sym at ∙ h) in
        halved_effect id place d (children_at t (slice_get d.nodes place)) (subst (λ (x : Combination). IsPairAt t x.nodes place) same p) refl lt

    fails : (id : ℕ) (c : Combination) → slice_get s.combinations id ≡ Some c → first is_failed (changed id (with_state HasFailed) s.combinations) ≡ Some id
    fails id c at = ap (λ cs. first is_failed cs) (changed_set (with_state HasFailed) s.combinations id c at)
        ∙ sym (first_new is_failed s.combinations id (with_state HasFailed c) (slice_get_within s.combinations id c at) unfailed refl)

  module _ (s : FrontierState) (w : ℕ) (within : length s.log ≤ t.budget) where
    take_effect : (o : Option ℕ) → first is_failed s.combinations ≡ None → first is_combination_pending s.combinations ≡ o
        → first is_combination_taken s.combinations ≡ None → Effect s (record { worker = w; step = Take }) (taken t s w o None)
    take_effect None unfailed h none = stood refl refl (none_finished s (record { worker = w; step = Take }) within unfailed h none)
    take_effect (Some k) unfailed h none = effect_full s (record { worker = w; step = Take }) within unfailed (is_full t s) _ refl
        (pending_unfinished s (record { worker = w; step = Take }) within unfailed k h) (λ lt. went lt refl (λ g. never false _ refl g))

    stepped_effect : (step : FrontierStep) → first is_failed s.combinations ≡ None → CanStep t s w step → IsTurn t s step → Effect s (record { worker = w; step = step }) (stepped t s w step)
    stepped_effect Take unfailed can turn = subst
        (λ (o : Option ℕ). Effect s (record { worker = w; step = Take }) (taken t s w (first is_combination_pending s.combinations) o)) (sym turn)
        (take_effect (first is_combination_pending s.combinations) unfailed refl turn)
    stepped_effect (Pass id time) unfailed can turn =
        let e : FrontierEntry = record { worker = w; step = Pass id time } in
        effect_full s e within unfailed (is_full t s) _ refl (taken_unfinished s e within unfailed turn.0 turn.1) (λ lt. went lt refl (λ g. never false _ refl g))
    stepped_effect (Split id place) unfailed can turn =
        let e : FrontierEntry = record { worker = w; step = Split id place } in
        effect_full s e within unfailed (is_full t s) _ refl (taken_unfinished s e within unfailed turn.0 turn.1)
        (λ lt. halved_at_effect s e within unfailed id place can.0 (slice_get s.combinations id) can.1.at can.2 refl lt)
    stepped_effect (Fail id) unfailed can turn =
        let e : FrontierEntry = record { worker = w; step = Fail id } in
        effect_full s e within unfailed (is_full t s) _ refl (taken_unfinished s e within unfailed turn.0 turn.1) (λ lt. went lt refl (λ g. fails s e within unfailed id can.0 can.1.at))

    by_effect : (step : FrontierStep) (o : Option ℕ) → first is_failed s.combinations ≡ o → CanStep t s w step → IsTurn t s step → Effect s (record { worker = w; step = step }) (step_by t s w step o)
    by_effect step None h can turn = stepped_effect step h can turn
    by_effect step (Some id) h can turn = stood refl refl h

    pub step_effect : (step : FrontierStep) → CanStep t s w step → IsTurn t s step → Effect s (record { worker = w; step = step }) (step_of t s w step)
    step_effect step can turn = by_effect step (first is_failed s.combinations) refl can turn

module _ (f : Plain) (d : ℕ) (old : FrontierView) (w : ℕ) (step : FrontierStep) where
  abbrev pub entry : FrontierEntry
  entry = record { worker = w; step = step }

  turn_by : CanApply f old w step → IsEagerStep (setting_of f old) (state_of old) entry → IsDriven d (state_of old) entry → (o : FrontierOutcome)
      → outcome f old w step ≡ o → Effect (setting_of f old) (state_of old) entry o → FrontierTurn f d old (moved old o.state) o.reply
  turn_by can eager driven o is (stood same end stops) = record {
    drives = record { more = []; setting = refl; log = ap (λ (s : FrontierState). s.log) same ∙ sym (append-nil old.log); run = tt; state = same; eager = tt; driven = tt };
    stops = λ g. subst (λ (s : FrontierState). StopsAt (setting_of f old) s o.reply) (sym same) stops;
    goes = λ g. absurd (true_not_false (ends_frontier o.reply) end g);
  }
  turn_by can eager driven o is (went lt log stops) = record {
    drives = record {
      more = entry ∷ [];
      setting = refl;
      log = log;
      run = (can, ap (λ (x : FrontierOutcome). x.state.log) is ∙ log, tt);
      state = sym
          (ap (λ (x : FrontierOutcome). x.state) is);
      eager = (eager, tt);
      driven = (driven, tt);
    };
    stops = stops;
    goes = λ g. (ap length log ∙ length-append old.log (entry ∷ []), lt, refl);
  }

  -- a driver's step
  pub turn_of : (new : FrontierView) (r : FrontierReply) → length old.log ≤ old.budget → CanApply f old w step → IsEagerStep (setting_of f old) (state_of old) entry
      → IsDriven d (state_of old) entry → IsTurn (setting_of f old) (state_of old) step → IsFrontierStep f old new w step r → FrontierTurn f d old new r
  turn_of new r within can eager driven turn h =
      let base : FrontierTurn f d old (moved old (outcome f old w step).state) (outcome f old w step).reply = turn_by can eager driven (outcome f old w step) refl
      (step_effect (setting_of f old) (state_of old) w within step can turn) in
      subst (λ (v : FrontierView). FrontierTurn f d old v r) (sym h.state) (subst (λ (q : FrontierReply). FrontierTurn f d old (moved old (outcome f old w step).state) q) (sym h.reply_is) base)

module _ (f : Plain) (d : ℕ) where
  -- before the first turn
  pub drives_start : (v : FrontierView) → DrivesFrontier f d v v
  drives_start v = record { more = []; setting = refl; log = sym (append-nil v.log); run = tt; state = refl; eager = tt; driven = tt }

  -- after one more turn
  pub drives_on : (old mid new : FrontierView) → DrivesFrontier f d old mid → DrivesFrontier f d mid new → DrivesFrontier f d old new
  drives_on old mid new a b =
      let t : FrontierSetting = setting_of f old in
      let run : IsRunBy (after t) (CanEnter t) (λ (s : FrontierState). s.log) (replay_from t (state_of old) a.more) b.more =
      subst (λ (s : FrontierState). IsRunBy (after t) (CanEnter t) (λ (s : FrontierState). s.log) s b.more) a.state
      (subst (λ (x : FrontierSetting). IsRunBy (after x) (CanEnter x) (λ (s : FrontierState). s.log) (state_of mid) b.more) a.setting b.run) in
      let eager : AllAlong (after t) (IsEagerStep t) (replay_from t (state_of old) a.more) b.more =
      subst (λ (s : FrontierState). AllAlong (after t) (IsEagerStep t) s b.more) a.state
      (subst (λ (x : FrontierSetting). AllAlong (after x) (IsEagerStep x) (state_of mid) b.more) a.setting b.eager) in
      let driven : AllAlong (after t) (IsDriven d) (replay_from t (state_of old) a.more) b.more =
      subst (λ (s : FrontierState). AllAlong (after t) (IsDriven d) s b.more) a.state (subst (λ (x : FrontierSetting). AllAlong (after x) (IsDriven d) (state_of mid) b.more) a.setting b.driven) in
      let state : state_of new ≡ replay_from t (replay_from t (state_of old) a.more) b.more =
      subst (λ (s : FrontierState). state_of new ≡ replay_from t s b.more) a.state (subst (λ (x : FrontierSetting). state_of new ≡ replay_from x (state_of mid) b.more) a.setting b.state) in
      record {
        more = a.more ++ b.more;
        setting = b.setting ∙ a.setting;
        log = b.log ∙ (ap (λ es. es ++ b.more) a.log ∙ append_assoc old.log a.more b.more);
        run = run_join (after t) (CanEnter t) (λ (s : FrontierState). s.log) a.more b.more (state_of old) a.run run;
        state = state ∙ sym (replay_join (after t) a.more b.more (state_of old));
        eager = along_join (after t) (IsEagerStep t) a.more b.more (state_of old) a.eager eager;
        driven = along_join (after t) (IsDriven d) a.more b.more (state_of old) a.driven driven;
      }

  -- an eager log stays eager
  pub drives_eager : (old new : FrontierView) → IsFrontier f old → DrivesFrontier f d old new → IsEager (setting_of f old) old.log → IsEager (setting_of f old) new.log
  drives_eager old new front a h =
      let t : FrontierSetting = setting_of f old in
      subst (λ (es : List FrontierEntry). IsEager t es) (sym a.log)
      (along_join (after t) (IsEagerStep t) old.log a.more (opening_state t) h (subst (λ (s : FrontierState). AllAlong (after t) (IsEagerStep t) s a.more) front.state a.eager))
