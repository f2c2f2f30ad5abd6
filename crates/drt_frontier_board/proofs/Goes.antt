-- Each step of the frontier machine, as to its log, its reply, and what was taken.
use Rattle.std.proofs.Common.{◌≡◌, ℕ, ◌+◌, ◌<◌, Bool, true, false, cond, Option, Some, None, List, [], ◌∷◌, ◌++◌, length, refl, sym, ap, ◌∙◌, arith, length-append}
use Rattle.std.specs.Prelude.{slice_get}
use Rattle.std.proofs.lemmas.Bool.{leb-false}
use Rattle.std.proofs.lemmas.Option.{none-some, same_Some, slice_get_within}
use Rattle.drt_worklist.specs.Places.{first, changed}
use Rattle.drt_worklist.proofs.Lists.{Found, found, length-changed}
use Rattle.drt_refine.specs.Combination.{Combination, is_combination_pending, is_combination_taken, is_failed, with_state}
use Rattle.drt_refine.specs.Machine.{FrontierSetting, FrontierState, FrontierOutcome, is_full, unchanged, logged_outcome, taken, halved, halved_at, children_at, stepped, step_by, step_of}
use Rattle.drt_refine.specs.declared.step.CombinationState.TheVariants.{Taken as TakenBy}
use Rattle.drt_refine.specs.declared.step.FrontierEntry.{FrontierEntry}
use Rattle.drt_refine.specs.declared.step.FrontierReply.{FrontierReply}
use Rattle.drt_refine.specs.declared.step.FrontierReply.TheVariants.{Taken, Busy, Finished, Passed, Halved, Failed, Spent}
use Rattle.drt_refine.specs.declared.step.FrontierStep.{FrontierStep}
use Rattle.drt_refine.specs.declared.step.FrontierStep.TheVariants.{Take, Pass, Split, Fail}
use Rattle.drt_frontier_board.specs.Finds.{is_that_combination}
use Rattle.drt_frontier_board.specs.Replies.{frontier_logged_by, taken_by, IsReplyTo}

module _ (t : FrontierSetting) (s : FrontierState) (held : Option ℕ) where
  pub record Goes (step : FrontierStep) (o : FrontierOutcome) : Type 0 where
    pub log : length o.state.log ≡ length s.log + frontier_logged_by held o.reply
    pub few : frontier_logged_by held o.reply ≡ 1 → length s.log < t.budget
    pub kind : IsReplyTo step o.reply
    pub taken_is : (k : ℕ) → taken_by o.reply ≡ Some k → k < length o.state.combinations

  -- a step that changes nothing
  stays : (step : FrontierStep) (r : FrontierReply) → frontier_logged_by held r ≡ 0 → IsReplyTo step r → taken_by r ≡ None → Goes step (unchanged s r)
  stays step r none kind no_one = record {
    log = omega (arith, none);
    few = λ one. absurd (omega (arith, none, one));
    kind = kind;
    taken_is = λ k e. absurd (none-some k (sym no_one ∙ e));
  }

  -- a step that is logged
  adds : (step : FrontierStep) (e : FrontierEntry) (cs : List Combination) (r : FrontierReply) → length s.log < t.budget
      → frontier_logged_by held r ≡ 1 → IsReplyTo step r → ((k : ℕ) → taken_by r ≡ Some k → k < length cs) → Goes step (logged_outcome s e cs r)
  adds step e cs r lt one kind within = record {
    log = (let l : length (s.log ++ e ∷ []) ≡ length s.log + 1 = length-append s.log (e ∷ []) in omega (arith, l, one));
    few = λ _. lt;
    kind = kind;
    taken_is = within;
  }

  -- a step that is refused where the log is full
  full_or : (step : FrontierStep) (o : FrontierOutcome) → IsReplyTo step Spent → (length s.log < t.budget → Goes step o) → (b : Bool) → is_full t s ≡ b → Goes step (cond b (unchanged s Spent) o)
  full_or step o kind go true e = stays step Spent refl kind refl
  full_or step o kind go false e = go (leb-false t.budget (length s.log) e)

  takes : (w k : ℕ) → first is_combination_pending s.combinations ≡ Some k → length s.log < t.budget
      → Goes Take (logged_outcome s (record { worker = w; step = Take }) (changed k (with_state (TakenBy w)) s.combinations) (Taken k))
  takes w k is lt =
      let f : Found is_combination_pending s.combinations k = found is_combination_pending s.combinations k is in
      let within : k < length s.combinations = slice_get_within s.combinations k f.item f.at in
      let same : length (changed k (with_state (TakenBy w)) s.combinations) ≡ length s.combinations = length-changed k (with_state (TakenBy w)) s.combinations in
      adds Take (record { worker = w; step = Take }) (changed k (with_state (TakenBy w)) s.combinations)
      (Taken k) lt refl tt (λ j e. (let one : k ≡ j = same_Some k j e in omega (arith, one, within, same)))

  goes_take : (w : ℕ) (o u : Option ℕ) → first is_combination_pending s.combinations ≡ o → Goes Take (taken t s w o u)
  goes_take w None None is = stays Take Finished refl tt refl
  goes_take w None (Some h) is = full_or Take (unchanged s (Busy h)) tt (λ lt. stays Take (Busy h) refl tt refl) (is_full t s) refl
  goes_take w (Some k) u is = full_or Take (logged_outcome s (record { worker = w; step = Take }) (changed k (with_state (TakenBy w)) s.combinations) (Taken k)) tt
      (λ lt. takes w k is lt) (is_full t s) refl

  nothing : (r : FrontierReply) → taken_by r ≡ None → (n k : ℕ) → taken_by r ≡ Some k → k < n
  nothing r no_one n k e = absurd (none-some k (sym no_one ∙ e))

  goes_halved : (e : FrontierEntry) (id place : ℕ) (nodes : List ℕ) → length s.log < t.budget → (o : Option (ℕ × ℕ)) → Goes (Split id place) (halved t s e id place nodes o)
  goes_halved e id place nodes lt None = stays (Split id place) Spent refl tt refl
  goes_halved e id place nodes lt (Some p) =
      adds (Split id place) e _ (Halved (length s.combinations) (length s.combinations + 1)) lt refl tt (nothing (Halved (length s.combinations) (length s.combinations + 1)) refl _)

  goes_halved_at : (e : FrontierEntry) (id place : ℕ) → length s.log < t.budget → (o : Option Combination) → Goes (Split id place) (halved_at t s e id place o)
  goes_halved_at e id place lt None = stays (Split id place) Spent refl tt refl
  goes_halved_at e id place lt (Some c) = goes_halved e id place c.nodes lt (children_at t (slice_get c.nodes place))

  -- that of a Fail is the combination that the worker held
  abbrev pub FailsHeld : FrontierStep → Type 0
  FailsHeld Take = Unit {0}
  FailsHeld (Pass id time) = Unit {0}
  FailsHeld (Split id place) = Unit {0}
  FailsHeld (Fail id) = is_that_combination id held ≡ true

  goes_stepped : (w : ℕ) (step : FrontierStep) → FailsHeld step → Goes step (stepped t s w step)
  goes_stepped w Take fails = goes_take w (first is_combination_pending s.combinations) (first is_combination_taken s.combinations) refl
  goes_stepped w (Pass id time) fails = full_or (Pass id time) _ tt (λ lt. adds (Pass id time) _ _ Passed lt refl tt (nothing Passed refl _)) (is_full t s) refl
  goes_stepped w (Split id place) fails =
      full_or (Split id place) _ tt (λ lt. goes_halved_at (record { worker = w; step = Split id place }) id place lt (slice_get s.combinations id)) (is_full t s) refl
  goes_stepped w (Fail id) fails = full_or (Fail id) _ tt (λ lt. adds (Fail id) _ _ (Failed id) lt (ap (λ b. cond b 1 0) fails) tt (nothing (Failed id) refl _)) (is_full t s) refl

  failed_reply : (step : FrontierStep) (k : ℕ) → IsReplyTo step (Failed k)
  failed_reply Take k = tt
  failed_reply (Pass id time) k = tt
  failed_reply (Split id place) k = tt
  failed_reply (Fail id) k = tt

  goes_by : (w : ℕ) (step : FrontierStep) → FailsHeld step → (o : Option ℕ) → ((k : ℕ) → o ≡ Some k → is_that_combination k held ≡ false) → Goes step (step_by t s w step o)
  goes_by w step fails None other = goes_stepped w step fails
  goes_by w step fails (Some k) other = stays step (Failed k) (ap (λ b. cond b 1 0) (other k refl)) (failed_reply step k) refl

  -- where what the worker held hasn't failed
  pub goes : (w : ℕ) (step : FrontierStep) → FailsHeld step → ((k : ℕ) → first is_failed s.combinations ≡ Some k → is_that_combination k held ≡ false) → Goes step (step_of t s w step)
  goes w step fails other = goes_by w step fails (first is_failed s.combinations) other
