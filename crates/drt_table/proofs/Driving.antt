-- What a driver's turn does, and how turns add up.
use Rattle.std.proofs.Common.{◌≡◌, ℕ, ◌+◌, ◌<◌, ◌≤◌, Bool, true, false, cond, Option, Some, None, List, [], ◌∷◌, ◌++◌, length, refl, sym, ap, ◌∙◌, subst, arith, append_assoc, length-append}
use Rattle.std.specs.Prelude.{slice_get, IsTrue, is_none, ◌&&◌}
use Rattle.std.proofs.lemmas.List.{append-nil}
use Rattle.std.proofs.lemmas.Option.{none-some}
use Rattle.std.proofs.lemmas.Bool.{leb-true, leb-false}
use Rattle.drt_label.specs.Algebra.{Algebra}
use Rattle.drt_table.specs.Node.{NodeOf, is_taken, is_taken_state}
use Rattle.drt_table.specs.declared.node.NodeState.{NodeState}
use Rattle.drt_table.specs.declared.node.NodeState.TheVariants.{Taken as TakenBy}
use Rattle.drt_table.specs.declared.step.TableStep.{TableStep}
use Rattle.drt_table.specs.declared.step.TableStep.TheVariants.{Take, Offer, Close}
use Rattle.drt_table.specs.declared.step.TableReply.{TableReply}
use Rattle.drt_table.specs.declared.step.TableReply.TheVariants.{Finished, OutOfRange, Spent}
use Rattle.drt_table.specs.declared.step.Entry.{Entry}
use Rattle.drt_worklist.specs.Places.{first}
use Rattle.drt_table.specs.Machine.{Setting, State, Outcome, in_range, extended, is_full, unchanged, logged, offset, next, holder, taken, dominating, compared, counted, offered_at, step_of, CanStep, is_finished, after, CanEnter, replay_from}
use Rattle.drt_table.specs.View.{View, setting_of, state_of, CanApply, outcome, IsTableStep}
use Rattle.drt_table.specs.Drive.{IsDriven, Drives, StopsAt}
use Rattle.drt_table.specs.Turn.{Went, Stopped, ends, Turn}
use Rattle.drt_table.proofs.Adding.{true_not_false}
use Rattle.drt_table.proofs.Earliest.{none_earliest}
use Rattle.drt_worklist.proofs.Runs.{replay_join, along_join, run_join}

module _ {L : Type 0} (a : Algebra L) (t : Setting) where
  -- the entry is added
  abbrev pub AddsEntry : State L → Entry → Outcome L → Type 0
  AddsEntry s e o = (o.state.log ≡ s.log ++ e ∷ []) × (ends o.reply ≡ false)

  -- either the log is full and the reply is Spent, or the entry is added
  data Effect (s : State L) (e : Entry) (o : Outcome L) : Type 0 where
    spent : t.budget ≤ length s.log → o.reply ≡ Spent → o.state ≡ s → Effect s e o
    entry : length s.log < t.budget → AddsEntry s e o → Effect s e o

  effect_cond : (s : State L) (e : Entry) (b : Bool) (o : Outcome L) → is_full a t s ≡ b → AddsEntry s e o → Effect s e (cond b (unchanged a t s Spent) o)
  effect_cond s e true o p q = spent (leb-true t.budget (length s.log) p) refl refl
  effect_cond s e false o p q = entry (leb-false t.budget (length s.log) p) q

  effect_compared : (s : State L) (e : Entry) (ns : List (NodeOf L)) (id : ℕ) (l : L) (o : Option ℕ) → AddsEntry s e (compared a t s e ns id l o)
  effect_compared s e ns id l None = (refl, refl)
  effect_compared s e ns id l (Some k) = (refl, refl)

  effect_ranged : (s : State L) (e : Entry) (ns : List (NodeOf L)) (id : ℕ) (l : L) (o : Option ℕ) (b : Bool) → AddsEntry s e (cond b (compared a t s e ns id l o) (logged a t s e ns OutOfRange))
  effect_ranged s e ns id l o true = effect_compared s e ns id l o
  effect_ranged s e ns id l o false = (refl, refl)

  effect_offered_at : (s : State L) (e : Entry) (id k : ℕ) (n : NodeOf L) (o : Option (NodeOf L)) → slice_get s.nodes id ≡ o → slice_get s.nodes id ≡ Some n → AddsEntry s e (offered_at a t s e id k o)
  effect_offered_at s e id k n None h at = absurd (none-some n (sym h ∙ at))
  effect_offered_at s e id k n (Some m) h at = effect_ranged s e (counted a t id s.nodes) id (extended a t m.label k)
      (first (dominating a t (extended a t m.label k)) (counted a t id s.nodes)) (in_range a t (extended a t m.label k))

  effect_offer : (s : State L) (w id k : ℕ) → CanStep a t s w (Offer id k) → Effect s (record { worker = w; step = Offer id k }) (step_of a t s w (Offer id k))
  effect_offer s w id k can = effect_cond s _ (is_full a t s) _ refl (effect_offered_at s _ id k can.0 (slice_get s.nodes id) refl can.1.at)

  effect_close : (s : State L) (w id : ℕ) → Effect s (record { worker = w; step = Close id }) (step_of a t s w (Close id))
  effect_close s w id = effect_cond s _ (is_full a t s) _ refl (refl, refl)

  -- Take where no node is taken
  data TakeEffect (s : State L) (w : ℕ) (o : Outcome L) : Type 0 where
    finished : is_finished a t s ≡ true → o.reply ≡ Finished → o.state ≡ s → TakeEffect s w o
    other : is_finished a t s ≡ false → Effect s (record { worker = w; step = Take }) o → TakeEffect s w o

  effect_taken : (s : State L) (w : ℕ) (p : Option ℕ) → next a t s.nodes ≡ p → holder a t s.nodes ≡ None → TakeEffect s w (taken a t s w p None)
  effect_taken s w None h e = finished (ap (λ x. is_none x && is_none (holder a t s.nodes)) h ∙ ap is_none e) refl refl
  effect_taken s w (Some k) h e = other (ap (λ x. is_none x && is_none (holder a t s.nodes)) h) (effect_cond s _ (is_full a t s) _ refl (refl, refl))

  effect_take : (s : State L) (w : ℕ) → holder a t s.nodes ≡ None → TakeEffect s w (step_of a t s w Take)
  effect_take s w e = subst (λ o. TakeEffect s w (taken a t s w (next a t s.nodes) o)) (sym e) (effect_taken s w (next a t s.nodes) refl e)

not_taken : (x : NodeState) (w : ℕ) → x ≡ TakenBy w → is_taken_state x ≡ false → ⊥
not_taken x w e h = absurd (let t : is_taken_state (TakenBy w) ≡ false = ap is_taken_state (sym e) ∙ h in cc)

and_false : (b : Bool) → (b && false) ≡ false
and_false true = refl
and_false false = refl

module _ {L : Type 0} (a : Algebra L) (d : ℕ) (old new : View L) (w : ℕ) (r : TableReply) (within : length old.log ≤ old.budget) where
  -- a stop at Spent
  spent_stops : setting_of new ≡ setting_of old → state_of new ≡ state_of old → is_finished a (setting_of old) (state_of old) ≡ false → old.budget ≤ length old.log → StopsAt a new Spent
  spent_stops set st f le = (
    subst (λ (t : Setting). t.budget ≡ length new.log) (sym set) (subst (λ (s : State L). old.budget ≡ length s.log) (sym st) (omega arith)),
    subst (λ (t : Setting). is_finished a t (state_of new) ≡ false) (sym set) (subst (λ (s : State L). is_finished a (setting_of old) s ≡ false) (sym st) f),
  )

  finished_stops : setting_of new ≡ setting_of old → state_of new ≡ state_of old → is_finished a (setting_of old) (state_of old) ≡ true → StopsAt a new Finished
  finished_stops set st f = subst (λ (t : Setting). IsTrue (is_finished a t (state_of new))) (sym set) (subst (λ (s : State L). IsTrue (is_finished a (setting_of old) s)) (sym st) f)

  after_effect : (step : TableStep) → CanApply a old w step → IsTableStep a old new w step r → IsDriven a (setting_of old) d (state_of old) w step
      → is_finished a (setting_of old) (state_of old) ≡ false → Effect a (setting_of old) (state_of old) (record { worker = w; step = step }) (outcome a old w step) → Turn a d old new r
  after_effect step can h driven f (spent full e s) = record {
    went_on = λ no. absurd (let yes : ends r ≡ true = ap ends (h.reply_is ∙ e) in true_not_false yes no);
    stopped = λ yes. record { setting = h.setting; state = h.state ∙ s; stops = subst (λ (q : TableReply). StopsAt a new q) (sym (h.reply_is ∙ e)) (spent_stops h.setting (h.state ∙ s) f full) };
  }
  after_effect step can h driven f (entry room log) = record {
    went_on = λ no. record { worker = w; step = step; can = can; is_step = h; room = room; log = ap (λ (s : State L). s.log) h.state ∙ log.0; driven = driven };
    stopped = λ yes. absurd (let no : ends r ≡ false = ap ends h.reply_is ∙ log.1 in true_not_false yes no);
  }

  unfinished : (j : ℕ) → holder a (setting_of old) (state_of old).nodes ≡ Some j → is_finished a (setting_of old) (state_of old) ≡ false
  unfinished j e = ap (λ o. is_none (next a (setting_of old) (state_of old).nodes) && is_none o) e ∙ and_false (is_none (next a (setting_of old) (state_of old).nodes))

  pub after_offer : (id k j : ℕ) → holder a (setting_of old) (state_of old).nodes ≡ Some j → CanApply a old w (Offer id k) → IsTableStep a old new w (Offer id k) r → Turn a d old new r
  after_offer id k j e can h = after_effect (Offer id k) can h tt (unfinished j e) (effect_offer a (setting_of old) (state_of old) w id k can)

  pub after_close : (id j : ℕ) → holder a (setting_of old) (state_of old).nodes ≡ Some j → CanApply a old w (Close id) → IsTableStep a old new w (Close id) r → Turn a d old new r
  after_close id j e can h = after_effect (Close id) can h tt (unfinished j e) (effect_close a (setting_of old) (state_of old) w id)

  take_case : w ≡ d → holder a (setting_of old) (state_of old).nodes ≡ None → CanApply a old w Take → IsTableStep a old new w Take r
      → TakeEffect a (setting_of old) (state_of old) w (outcome a old w Take) → Turn a d old new r
  take_case same none can h (finished f e s) = record {
    went_on = λ no. absurd (let yes : ends r ≡ true = ap ends (h.reply_is ∙ e) in true_not_false yes no);
    stopped = λ yes. record { setting = h.setting; state = h.state ∙ s; stops = subst (λ (q : TableReply). StopsAt a new q) (sym (h.reply_is ∙ e)) (finished_stops h.setting (h.state ∙ s) f) };
  }
  take_case same none can h (other f e) = after_effect Take can h (same, none) f e

  pub after_take : w ≡ d → holder a (setting_of old) (state_of old).nodes ≡ None → CanApply a old w Take → IsTableStep a old new w Take r → Turn a d old new r
  after_take same none can h = take_case same none can h (effect_take a (setting_of old) (state_of old) w none)

-- Take is allowed where no node is taken
pub can_take : {L : Type 0} (a : Algebra L) (v : View L) (w : ℕ) → holder a (setting_of v) (state_of v).nodes ≡ None → CanApply a v w Take
can_take a v w e id n at held = not_taken n.state w held (none_earliest is_taken (offset a (setting_of v)) (state_of v).nodes e id n at)

module _ {L : Type 0} (a : Algebra L) (w : ℕ) where
  -- before the first turn
  pub drives_start : (v : View L) → Drives a w v v
  drives_start v = record { more = []; setting = refl; log = sym (append-nil v.log); run = tt; state = refl; driven = tt }

  -- after one more turn
  pub drives_more : (old mid new : View L) (r : TableReply) → Drives a w old mid → Went a w mid new r → Drives a w old new
  drives_more old mid new r d g =
      let t : Setting = setting_of old in
      let e : Entry = record { worker = g.worker; step = g.step } in
      let can : CanStep a t (replay_from a t (state_of old) d.more) g.worker g.step =
      subst (λ (s : State L). CanStep a t s g.worker g.step) d.state (subst (λ (x : Setting). CanStep a x (state_of mid) g.worker g.step) d.setting g.can) in
      let state_t : state_of new ≡ (step_of a t (state_of mid) g.worker g.step).state = subst
      (λ (x : Setting). state_of new ≡ (step_of a x (state_of mid) g.worker g.step).state) d.setting g.is_step.state in
      let state_r : state_of new ≡ (step_of a t (replay_from a t (state_of old) d.more) g.worker g.step).state = subst
      (λ (s : State L). state_of new ≡ (step_of a t s g.worker g.step).state) d.state state_t in
      let log_r : (step_of a t (replay_from a t (state_of old) d.more) g.worker g.step).state.log ≡ (replay_from a t (state_of old) d.more).log ++ e ∷ [] =
      ap (λ (s : State L). s.log) (sym state_r) ∙ (g.log ∙ ap (λ (s : State L). s.log ++ e ∷ []) d.state) in
      let driven : IsDriven a t w (replay_from a t (state_of old) d.more) g.worker g.step =
      subst (λ (s : State L). IsDriven a t w s g.worker g.step) d.state (subst (λ (x : Setting). IsDriven a x w (state_of mid) g.worker g.step) d.setting g.driven) in
      record {
        more = d.more ++ e ∷ [];
        setting = g.is_step.setting ∙ d.setting;
        log = g.log ∙ (ap (λ es. es ++ e ∷ []) d.log ∙ append_assoc old.log d.more (e ∷ []));
        run = run_join (after a t) (CanEnter a t) (λ (s : State L). s.log) d.more (e ∷ []) (state_of old) d.run (can, log_r, tt);
        state = state_r ∙ sym (replay_join (after a t) d.more (e ∷ []) (state_of old));
        driven = along_join (after a t) (λ (s : State L) (e : Entry). IsDriven a t w s e.worker e.step) d.more (e ∷ []) (state_of old) d.driven (driven, tt);
      }

  -- after a turn that stops
  pub drives_stop : (old mid new : View L) (r : TableReply) → Drives a w old mid → Stopped a mid new r → Drives a w old new
  drives_stop old mid new r d g = record {
    more = d.more;
    setting = g.setting ∙ d.setting;
    log = ap (λ (s : State L). s.log) g.state ∙ d.log;
    run = d.run;
    state = g.state ∙ d.state;
    driven = d.driven;
  }

  -- each turn uses room in the log
  pub turn_less : (mid new : View L) (r : TableReply) → Went a w mid new r → (new.budget ≡ mid.budget) × (length new.log ≡ length mid.log + 1) × (length mid.log < mid.budget)
  turn_less mid new r g = (ap (λ (t : Setting). t.budget) g.is_step.setting, ap length g.log ∙ length-append mid.log (record { worker = g.worker; step = g.step } ∷ []), g.room)
