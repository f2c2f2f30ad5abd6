-- A call on the frontier: what a look at it shows, and what the call then makes of a step.
use Rattle.std.proofs.Common.{◌≡◌, ℕ, ◌+◌, ◌<◌, Bool, true, false, Option, Some, None, List, [], ◌∷◌, length, refl, sym, ap, ◌∙◌, subst, arith}
use Rattle.std.specs.Prelude.{slice_get, is_none, ◌&&◌, ◌==◌, ◌≢◌, IfSome, MatchBool}
use Rattle.std.proofs.lemmas.Bool.Decides.{nat_tests}
use Rattle.std.proofs.lemmas.Option.{none-some, same_Some, slice_get_within}
use Rattle.drt_steps.specs.Time.{IsLeastTime}
use Rattle.drt_tree.specs.Tree.{Plain}
use Rattle.drt_worklist.specs.Places.{first}
use Rattle.drt_worklist.proofs.Lists.{Found, found, none_found, get_within}
use Rattle.drt_worklist.proofs.Runs.{along_join}
use Rattle.drt_refine.specs.Combination.{Combination, is_failed, is_failed_state, is_combination_held_by, is_held_state}
use Rattle.drt_refine.specs.Drive.{Settles}
use Rattle.drt_refine.specs.Eager.{IsEager, IsEagerStep, IsSplitPlace}
use Rattle.drt_refine.specs.Facts.{AreInPlace}
use Rattle.drt_refine.specs.Machine.{FrontierSetting, FrontierState, CanStep, NonePasses, IsHopeless, after, opening_state}
use Rattle.drt_refine.specs.View.{FrontierView, setting_of, state_of, outcome, IsFrontier, IsFrontierStep}
use Rattle.drt_refine.specs.declared.step.CombinationState.{CombinationState}
use Rattle.drt_refine.specs.declared.step.CombinationState.TheVariants.{Pending, Taken as TakenBy, Passed as PassedAt, Split as SplitAt, Failed as HasFailed}
use Rattle.drt_refine.specs.declared.step.FrontierEntry.{FrontierEntry}
use Rattle.drt_refine.specs.declared.step.FrontierReply.{FrontierReply}
use Rattle.drt_refine.specs.declared.step.FrontierStep.{FrontierStep}
use Rattle.drt_refine.specs.declared.step.FrontierStep.TheVariants.{Take, Pass, Split, Fail}
use Rattle.drt_refine.proofs.Making.{Logs, same, adds, step_logs, frontier_facts}
use Rattle.drt_refine.proofs.Settling.{settle_can, settle_eager, take_eager}
use Rattle.drt_frontier_board.specs.FrontierBoard.{BoardOf, terms_of, CanMake, IsFrontierStepMade}
use Rattle.drt_frontier_board.specs.Finds.{HasCopy, IsFoundCombination, is_that_combination, is_expected_combination}
use Rattle.drt_frontier_board.specs.Replies.{frontier_logged_by, taken_by, IsReplyTo}
use Rattle.drt_frontier_board.specs.declared.answer.FrontierFound.{FrontierFound}
use Rattle.drt_frontier_board.proofs.Goes.{Goes, FailsHeld, goes}

is_equal : (m n : ℕ) → (m == n) ≡ true → m ≡ n
is_equal m n e = grind (arith, nat_tests)

equals : (m n : ℕ) → m ≡ n → (m == n) ≡ true
equals m n e = grind (arith, nat_tests)

not_equal : (m n : ℕ) → (m ≡ n → ⊥) → (m == n) ≡ false
not_equal m n e = grind (arith, nat_tests)

and_left : (b c : Bool) → (b && c) ≡ true → b ≡ true
and_left true c h = refl
and_left false c h = absurd (cc)

and_right : (b c : Bool) → (b && c) ≡ true → c ≡ true
and_right true c h = h
and_right false c h = absurd (cc)

state_held : (w : ℕ) (s : CombinationState) → is_held_state w s ≡ true → s ≡ TakenBy w
state_held w Pending e = absurd (cc e)
state_held w (TakenBy v) e = ap (λ y. TakenBy y) (is_equal v w e)
state_held w (PassedAt time) e = absurd (cc e)
state_held w (SplitAt place left right) e = absurd (cc e)
state_held w HasFailed e = absurd (cc e)

number_is : (k : ℕ) (o : Option ℕ) → is_that_combination k o ≡ true → o ≡ Some k
number_is k None e = absurd (cc e)
number_is k (Some j) e = ap (λ n. Some n) (is_equal j k e)

none_is : {A : Type 0} (o : Option A) → is_none o ≡ true → o ≡ None
none_is None e = refl
none_is (Some x) e = absurd (cc e)

-- what the frontier has of the combination that a pass holds
pub record IsSeen (s : FrontierState) (w id : ℕ) (nodes : List ℕ) : Type 0 where
  pub combination : Combination
  pub at : slice_get s.combinations id ≡ Some combination
  pub held : combination.state ≡ TakenBy w
  pub nodes_are : nodes ≡ combination.nodes

-- what a worker may make, by what it held
pub record CanGo (t : FrontierSetting) (s : FrontierState) (w : ℕ) (held : Option ℕ) (step : FrontierStep) : Type 0 where
  pub can : CanStep t s w step
  pub eager : IsEagerStep t s (record { worker = w; step = step })
  pub other : (k : ℕ) → first is_failed s.combinations ≡ Some k → is_that_combination k held ≡ false
  pub fails : FailsHeld t s held step

module _ (t : FrontierSetting) (s : FrontierState) (w : ℕ) (nodes : List ℕ) (f : FrontierFound) where
  -- where a pass holds nothing and nothing was found
  take_go : IsFoundCombination s.combinations w None nodes f → is_none f.held ≡ true → CanGo t s w None Take
  take_go is e =
      let none : first (is_combination_held_by w) s.combinations ≡ None = sym is.held_is ∙ none_is f.held e in
      record {
        can = λ id c at held. absurd (cc (none_found (is_combination_held_by w) s.combinations none id c at, ap (λ x. is_held_state w x) held, equals w w refl));
        eager = take_eager t s w;
        other = λ k e. refl;
        fails = tt;
      }

  -- where what was found is what the pass holds
  seen : (id : ℕ) → IsFoundCombination s.combinations w (Some id) nodes f → is_expected_combination (Some id) f ≡ true → IsSeen s w id nodes
  seen id is e =
      let at : f.held ≡ Some id = number_is id f.held (and_left (is_that_combination id f.held) f.same e) in
      let c : HasCopy s.combinations f.held (Some id) nodes = is.same_is.0 (and_right (is_that_combination id f.held) f.same e) in
      let one : c.found ≡ id = same_Some c.found id (sym c.found_is ∙ at) in
      let here : slice_get s.combinations id ≡ Some c.combination = ap (λ i. slice_get s.combinations i) (sym one) ∙ c.combination_is in
      let g : Found (is_combination_held_by w) s.combinations id = found (is_combination_held_by w) s.combinations id (sym is.held_is ∙ at) in
      let item : g.item ≡ c.combination = same_Some g.item c.combination (sym g.at ∙ here) in
      record {
        combination = c.combination;
        at = here;
        held = state_held w c.combination.state (subst (λ (x : Combination). is_combination_held_by w x ≡ true) item g.passes);
        nodes_are = c.same;
      }

  -- it hasn't failed
  not_failed : (id : ℕ) → IsSeen s w id nodes → (k : ℕ) → first is_failed s.combinations ≡ Some k → is_that_combination k (Some id) ≡ false
  not_failed id x k e = not_equal id k (λ one.
      let g : Found is_failed s.combinations k = found is_failed s.combinations k e in
      let item : x.combination ≡ g.item = same_Some x.combination g.item (sym x.at ∙ (ap (λ i. slice_get s.combinations i) one ∙ g.at)) in
      let failed : is_failed_state x.combination.state ≡ true = subst (λ (y : Combination). is_failed y ≡ true) (sym item) g.passes in
      cc (failed, ap is_failed_state x.held))

  -- the step that settles it
  settles : (id : ℕ) (x : IsSeen s w id nodes) (step : FrontierStep) → CanMake t (Some id) nodes step → Settles t id x.combination step
  settles id x Take can = absurd (none-some id (sym can))
  settles id x (Pass k time) can = (sym (same_Some id k can.0), subst (λ ns. IsLeastTime t.wcet t.deadline t.forest.pool ns time) x.nodes_are can.1)
  settles id x (Split k place) can = (
    sym (same_Some id k can.0),
    subst (λ ns. NonePasses t ns) x.nodes_are can.1,
    subst (λ ns. IsSplitPlace t.forest ns (Some place)) x.nodes_are can.2,
  )
  settles id x (Fail k) can = (sym (same_Some id k can.0), subst (λ ns. IsHopeless t ns) x.nodes_are can.1)

  fails_held : (id : ℕ) (step : FrontierStep) → CanMake t (Some id) nodes step → FailsHeld t s (Some id) step
  fails_held id Take can = tt
  fails_held id (Pass k time) can = tt
  fails_held id (Split k place) can = tt
  fails_held id (Fail k) can = equals id k (same_Some id k can.0)

  settle_go : (id : ℕ) (step : FrontierStep) → IsFoundCombination s.combinations w (Some id) nodes f → is_expected_combination (Some id) f ≡ true
      → CanMake t (Some id) nodes step → CanGo t s w (Some id) step
  settle_go id step is e can =
      let x : IsSeen s w id nodes = seen id is e in
      let does : Settles t id x.combination step = settles id x step can in
      record {
        can = settle_can t s w id x.combination x.at x.held step does;
        eager = settle_eager t s w id x.combination x.at x.held step does;
        other = not_failed id x;
        fails = fails_held id step can;
      }

  -- a worker may make a step that the pass may ask for, where what was found is what the pass holds
  pub can_go : (held : Option ℕ) (step : FrontierStep) → IsFoundCombination s.combinations w held nodes f → is_expected_combination held f ≡ true → CanMake t held nodes step → CanGo t s w held step
  can_go None Take is e can = take_go is e
  can_go None (Pass k time) is e can = absurd (none-some k can.0)
  can_go None (Split k place) is e can = absurd (none-some k can.0)
  can_go None (Fail k) is e can = absurd (none-some k can.0)
  can_go (Some id) step is e can = settle_go id step is e can

-- an eager step keeps a log eager
module _ (f : Plain) (old : FrontierView) (w : ℕ) (step : FrontierStep) (front : IsFrontier f old)
    (eager : IsEagerStep (setting_of f old) (state_of old) (record { worker = w; step = step })) (was : IsEager (setting_of f old) old.log) where
  kept_by : (x : FrontierState) → Logs (state_of old) (record { worker = w; step = step }) x → IsEager (setting_of f old) x.log
  kept_by x (same e) = subst (λ (s : FrontierState). IsEager (setting_of f old) s.log) (sym e) was
  kept_by x (adds e) =
      let t : FrontierSetting = setting_of f old in
      let entry : FrontierEntry = record { worker = w; step = step } in
      subst (λ (l : List FrontierEntry). IsEager t l) (sym e)
      (along_join (after t) (IsEagerStep t) old.log (entry ∷ []) (opening_state t) was (subst (λ (s : FrontierState). IsEagerStep t s entry) front.state eager, tt))

  pub eager_kept : (new : FrontierView) (reply : FrontierReply) → IsFrontierStep f old new w step reply → IsEager (setting_of f new) new.log
  eager_kept new reply h = subst (λ (v : FrontierView). IsEager (setting_of f v) v.log) (sym h.state) (kept_by (outcome f old w step).state (step_logs (setting_of f old) (state_of old) w step))

-- the step that was made
pub made : (old new : BoardOf) (w : ℕ) (held : Option ℕ) (step : FrontierStep) (reply : FrontierReply) → new.forest ≡ old.forest
    → CanGo (terms_of old) (state_of old.frontier) w held step → IsFrontierStep old.forest old.frontier new.frontier w step reply → IsFrontierStepMade old new w held step reply
made old new w held step reply same_forest go h =
    let g : Goes (terms_of old) (state_of old.frontier) held step (outcome old.forest old.frontier w step) = goes (terms_of old) (state_of old.frontier) held w step go.fails go.other in
    let r : reply ≡ (outcome old.forest old.frontier w step).reply = h.reply_is in
    record {
      terms = ap (λ x. setting_of x new.frontier) same_forest ∙ ap (λ v. setting_of old.forest v) h.state;
      made = h;
      log = ap (λ (v : FrontierView). length v.log) h.state ∙ (g.log ∙ ap (λ x. length old.frontier.log + frontier_logged_by held x) (sym r));
      few = λ one. g.few (ap (λ x. frontier_logged_by held x) (sym r) ∙ one);
      kind = subst (λ x. IsReplyTo step x) (sym r) g.kind;
      taken = λ k e. subst (λ (v : FrontierView). k < length v.combinations) (sym h.state) (g.taken_is k (ap (λ x. taken_by x) (sym r) ∙ e));
    }

-- the combination that a worker holds is one of the frontier
pub combination_within : (combinations : List Combination) (w id : ℕ) → first (is_combination_held_by w) combinations ≡ Some id → id < length combinations
combination_within combinations w id e = let f : Found (is_combination_held_by w) combinations id = found (is_combination_held_by w) combinations id e in slice_get_within combinations id f.item f.at

if_some : (o : Option Combination) (P : Combination → Type 0) (x : Combination) → IfSome o P → o ≡ Some x → P x
if_some None P x h e = absurd (none-some x e)
if_some (Some y) P x h e = subst P (same_Some y x e) h

-- what the nodes of a combination are
pub in_place : (f : Plain) (v : FrontierView) (id : ℕ) (nodes : List ℕ) → IsFrontier f v → id < length v.combinations
    → IfSome (slice_get v.combinations id) (λ c. nodes ≡ c.nodes) → AreInPlace (setting_of f v) nodes
in_place f v id nodes front lt are =
    let x : (x : Combination) × (slice_get v.combinations id ≡ Some x) = get_within v.combinations id lt in
    let facts = (frontier_facts f v front).nodes id x.0 x.1 in
    subst (λ ns. AreInPlace (setting_of f v) ns) (sym (if_some (slice_get v.combinations id) (λ c. nodes ≡ c.nodes) x.0 are x.1)) facts

-- what was found of the combination that the worker holds
pub found_one : (combinations : List Combination) (w id : ℕ) (held : Option ℕ) (nodes its : List ℕ) (b : Bool)
    → first (is_combination_held_by w) combinations ≡ Some id → IfSome (slice_get combinations id) (λ c. its ≡ c.nodes)
    → MatchBool b ((k : ℕ) × (held ≡ Some k) × (nodes ≡ its)) ((k : ℕ) → held ≡ Some k → nodes ≢ its) → IsFoundCombination combinations w held nodes (record { held = Some id; same = b })
found_one combinations w id held nodes its true at are is =
    let lt : id < length combinations = combination_within combinations w id at in
    let x : (x : Combination) × (slice_get combinations id ≡ Some x) = get_within combinations id lt in
    let same_nodes : its ≡ x.0.nodes = if_some (slice_get combinations id) (λ c. its ≡ c.nodes) x.0 are x.1 in
    record {
      held_is = sym at;
      same_is = (λ _. record { found = id; found_is = refl; combination = x.0; combination_is = x.1; copied = is.0; copied_is = is.1; same = is.2 ∙ same_nodes }, λ _. refl);
    }
found_one combinations w id held nodes its false at are is = record {
  held_is = sym at;
  same_is = (
    (λ e. absurd (cc e)),
    λ copy. (let here : slice_get combinations id ≡ Some copy.combination
        = ap (λ i. slice_get combinations i) (same_Some id copy.found copy.found_is) ∙ copy.combination_is in
        absurd (is copy.copied copy.copied_is (copy.same ∙ sym (if_some (slice_get combinations id) (λ c. its ≡ c.nodes) copy.combination are here)))),
  );
}

-- a frontier that began at the opening state and was driven has an eager log
pub driven_eager : (f : Plain) (old new : FrontierView) → state_of old ≡ opening_state (setting_of f old) → setting_of f new ≡ setting_of f old
    → (IsEager (setting_of f old) old.log → IsEager (setting_of f old) new.log) → IsEager (setting_of f new) new.log
driven_eager f old new opening same_setting goes =
    let none : [] ≡ old.log = sym (ap (λ (s : FrontierState). s.log) opening) in
    subst (λ (t : FrontierSetting). IsEager t new.log) (sym same_setting) (goes (subst (λ (l : List FrontierEntry). IsEager (setting_of f old) l) none tt))
