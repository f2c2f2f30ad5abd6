-- A run that is neither finished nor failed can be lengthened under a greater budget.
use Rattle.std.proofs.Common.{◌≡◌, ℕ, suc, zero, ◌+◌, ◌<◌, ◌≤◌, ◌⊎◌, Bool, true, false, cond, Option, Some, None, List, [], ◌∷◌, ◌++◌, length, refl, sym, ap, ◌∙◌, subst, arith, inl, inr, length-append}
use Rattle.std.specs.Prelude.{slice_get, is_none, ◌&&◌, nat_le}
use Rattle.std.proofs.lemmas.Bool.{leb-false}
use Rattle.std.proofs.lemmas.Bool.Decides.{nat_tests}
use Rattle.drt_steps.specs.Time.{Passes, sum_at}
use Rattle.drt_tree.specs.Tree.{children}
use Rattle.drt_worklist.specs.Places.{first, changed}
use Rattle.drt_worklist.proofs.Lists.{Found, found}
use Rattle.drt_worklist.proofs.Runs.{run_join, run_log}
use Rattle.drt_refine.specs.Below.{IsConcrete}
use Rattle.drt_refine.specs.Combination.{Combination, with_state, is_combination_pending, is_combination_taken, is_taken_combination, is_failed}
use Rattle.drt_refine.specs.Machine.{FrontierSetting, FrontierState, FrontierOutcome, is_full, unchanged, logged_outcome, taken, halved, halved_at, children_at, stepped, step_by, step_of, CanStep, IsPairAt, NonePasses, after, CanEnter, replay_from, replay, IsRunFrom, IsRun, opening_state, is_finished}
use Rattle.drt_refine.specs.Facts.{CanGoOn, with_budget}
use Rattle.drt_refine.specs.declared.step.CombinationState.{CombinationState}
use Rattle.drt_refine.specs.declared.step.CombinationState.TheVariants.{Pending, Taken as TakenBy, Passed as PassedAt, Split as SplitAt, Failed as HasFailed}
use Rattle.drt_refine.specs.declared.step.FrontierStep.{FrontierStep}
use Rattle.drt_refine.specs.declared.step.FrontierStep.TheVariants.{Take, Pass, Split, Fail}
use Rattle.drt_refine.specs.declared.step.FrontierReply.TheVariants.{Spent, Taken, Passed, Failed}
use Rattle.drt_refine.specs.declared.step.FrontierEntry.{FrontierEntry}
use Rattle.drt_refine.proofs.Settling.{take_can}

no_longer : (es : List FrontierEntry) (e : FrontierEntry) → es ≡ es ++ e ∷ [] → ⊥
no_longer es e h = let l : length es ≡ length es + 1 = ap length h ∙ length-append es (e ∷ []) in absurd (omega arith)

-- a greater budget changes no step that is logged
module _ (t : FrontierSetting) (budget : ℕ) (more : t.budget ≤ budget) where
  module _ (s : FrontierState) (e : FrontierEntry) where
    full_same : (b : Bool) (x : FrontierOutcome) → is_full t s ≡ b → (cond b (unchanged s Spent) x).state.log ≡ s.log ++ e ∷ []
        → cond (is_full (with_budget budget t) s) (unchanged s Spent) x ≡ cond b (unchanged s Spent) x
    full_same true x h l = absurd (no_longer s.log e l)
    full_same false x h l = ap (λ b. cond b (unchanged s Spent) x) (let lt : length s.log < t.budget = leb-false t.budget (length s.log) h in
        let g : nat_le budget (length s.log) ≡ false = grind (arith, nat_tests) in g)

    take_same : (w : ℕ) (o u : Option ℕ) → (taken t s w o u).state.log ≡ s.log ++ e ∷ [] → taken (with_budget budget t) s w o u ≡ taken t s w o u
    take_same w None None l = refl
    take_same w None (Some k) l = full_same (is_full t s) _ refl l
    take_same w (Some k) u l = full_same (is_full t s) _ refl l

    stepped_same : (w : ℕ) (step : FrontierStep) → (stepped t s w step).state.log ≡ s.log ++ e ∷ [] → stepped (with_budget budget t) s w step ≡ stepped t s w step
    stepped_same w Take l = take_same w (first is_combination_pending s.combinations) (first is_combination_taken s.combinations) l
    stepped_same w (Pass id time) l = full_same (is_full t s) _ refl l
    stepped_same w (Split id place) l = split_same id place w (slice_get s.combinations id) (halved_at t s (record { worker = w; step = Split id place }) id place (slice_get s.combinations id)) refl l
      where
        halved_same : (id place w : ℕ) (c : Combination) (o : Option (ℕ × ℕ)) → halved (with_budget budget t) s (record { worker = w; step = Split id place }) id place
            c.nodes o ≡ halved t s (record { worker = w; step = Split id place }) id place c.nodes o
        halved_same id place w c None = refl
        halved_same id place w c (Some p) = refl

        at_same : (id place w : ℕ) (o : Option Combination)
            → halved_at (with_budget budget t) s (record { worker = w; step = Split id place }) id place o ≡ halved_at t s (record { worker = w; step = Split id place }) id place o
        at_same id place w None = refl
        at_same id place w (Some c) = child_same id place w c (slice_get c.nodes place)
          where
            child_same : (id place w : ℕ) (c : Combination) (n : Option ℕ)
                → halved (with_budget budget t) s (record { worker = w; step = Split id place }) id place c.nodes (children_at (with_budget budget t) n)
                ≡ halved t s (record { worker = w; step = Split id place }) id place c.nodes (children_at t n)
            child_same id place w c None = refl
            child_same id place w c (Some n) = halved_same id place w c (children t.forest n)

        split_same : (id place w : ℕ) (o : Option Combination) (x : FrontierOutcome) → halved_at t s (record { worker = w; step = Split id place }) id place o ≡ x
            → (cond (is_full t s) (unchanged s Spent) x).state.log ≡ s.log ++ e ∷ []
            → cond (is_full (with_budget budget t) s) (unchanged s Spent) (halved_at (with_budget budget t) s (record { worker = w; step = Split id place }) id place o)
            ≡ cond (is_full t s) (unchanged s Spent) x
        split_same id place w o x h l = ap (λ y. cond (is_full (with_budget budget t) s) (unchanged s Spent) y) (at_same id place w o ∙ h) ∙ full_same (is_full t s) x refl l
    stepped_same w (Fail id) l = full_same (is_full t s) _ refl l

    by_same : (w : ℕ) (step : FrontierStep) (o : Option ℕ) → (step_by t s w step o).state.log ≡ s.log ++ e ∷ [] → step_by (with_budget budget t) s w step o ≡ step_by t s w step o
    by_same w step None l = stepped_same w step l
    by_same w step (Some id) l = refl

    step_same : (w : ℕ) (step : FrontierStep) → (step_of t s w step).state.log ≡ s.log ++ e ∷ [] → step_of (with_budget budget t) s w step ≡ step_of t s w step
    step_same w step l = by_same w step (first is_failed s.combinations) l

  can_same : (s : FrontierState) (w : ℕ) (step : FrontierStep) → CanStep t s w step → CanStep (with_budget budget t) s w step
  can_same s w Take h = h
  can_same s w (Pass id time) h = (h.0, record { at = h.1.at; held = h.1.held }, h.2)
  can_same s w (Split id place) h = (h.0, record { at = h.1.at; held = h.1.held }, record { node = h.2.node; left = h.2.left; right = h.2.right; at = h.2.at; children = h.2.children })
  can_same s w (Fail id) h = (h.0, record { at = h.1.at; held = h.1.held }, h.2)

  -- a run is a run under a greater budget, and leads to the same state
  pub run_same : (es : List FrontierEntry) (s : FrontierState) → IsRunFrom t s es → IsRunFrom (with_budget budget t) s es × (replay_from (with_budget budget t) s es ≡ replay_from t s es)
  run_same [] s run = (tt, refl)
  run_same (e ∷ es) s run =
      let same : after (with_budget budget t) s e ≡ after t s e = ap (λ (o : FrontierOutcome). o.state) (step_same s e e.worker e.step run.1) in
      let rest : IsRunFrom (with_budget budget t) (after t s e) es × (replay_from (with_budget budget t) (after t s e) es ≡ replay_from t (after t s e) es) = run_same es (after t s e) run.2 in (
        (can_same s e.worker e.step run.0, ap (λ (x : FrontierState). x.log) same ∙ run.1, subst (λ (x : FrontierState). IsRunFrom (with_budget budget t) x es) (sym same) rest.0),
        ap (λ (x : FrontierState). replay_from (with_budget budget t) x es) same ∙ rest.1,
      )

-- whether some time passes
module _ (t : FrontierSetting) (nodes : List ℕ) where
  upto : (n : ℕ) → n ≤ t.deadline → ((time : ℕ) × Passes t.wcet t.deadline t.forest.pool nodes time) ⊎ ((time : ℕ) → time ≤ n → Passes t.wcet t.deadline t.forest.pool nodes time → ⊥)
  upto zero le = inr (λ time le p. let one : 1 ≤ time = p.from in absurd (omega arith))
  upto (suc n) le = elim (upto n (omega arith)) as
      (λ _. ((time : ℕ) × Passes t.wcet t.deadline t.forest.pool nodes time) ⊎ ((time : ℕ) → time ≤ suc n → Passes t.wcet t.deadline t.forest.pool nodes time → ⊥)) [
        | inl p ↦ inl p
        | inr none ↦ elim (sides (t.wcet + sum_at t.forest.pool nodes (suc n)) (suc n)) as
            (λ _. ((time : ℕ) × Passes t.wcet t.deadline t.forest.pool nodes time) ⊎ ((time : ℕ) → time ≤ suc n → Passes t.wcet t.deadline t.forest.pool nodes time → ⊥)) [
              | inl le2 ↦ inl (suc n, record { from = omega arith; to = le; passes = le2 })
              | inr gt ↦ inr (λ time lt p. elim (last time n lt) as (λ _. ⊥) [
                | inl less ↦ none time less p
                | inr same ↦ (let q : t.wcet + sum_at t.forest.pool nodes (suc n) ≤ suc n = subst (λ (m : ℕ). t.wcet + sum_at t.forest.pool nodes m ≤ m) same p.passes in absurd (omega arith))
              ])
            ]
      ]
    where
      sides : (a b : ℕ) → (a ≤ b) ⊎ (b < a)
      sides a b = grind arith

      last : (k n : ℕ) → k ≤ suc n → (k ≤ n) ⊎ (k ≡ suc n)
      last k n le = grind arith

  passes_or : ((time : ℕ) × Passes t.wcet t.deadline t.forest.pool nodes time) ⊎ NonePasses t nodes
  passes_or = elim (upto t.deadline (omega arith)) as (λ _. ((time : ℕ) × Passes t.wcet t.deadline t.forest.pool nodes time) ⊎ NonePasses t nodes)
      [ inl p ↦ inl p | inr none ↦ inr (λ time p. none time p.to p) ]

-- each node is a leaf, or one is a pair
concrete_or : (t : FrontierSetting) (nodes : List ℕ) → IsConcrete t.forest nodes ⊎ ((place : ℕ) × IsPairAt t nodes place)
concrete_or t [] = inl tt
concrete_or t (n ∷ nodes) = by (children t.forest n) refl (concrete_or t nodes)
  where
    by : (o : Option (ℕ × ℕ)) → children t.forest n ≡ o → IsConcrete t.forest nodes ⊎ ((place : ℕ) × IsPairAt t nodes place)
        → IsConcrete t.forest (n ∷ nodes) ⊎ ((place : ℕ) × IsPairAt t (n ∷ nodes) place)
    by None e rest = elim rest as (λ _. IsConcrete t.forest (n ∷ nodes) ⊎ ((place : ℕ) × IsPairAt t (n ∷ nodes) place)) [
      | inl c ↦ inl (e, c)
      | inr p ↦ inr (suc p.0, record { node = p.1.node; left = p.1.left; right = p.1.right; at = p.1.at; children = p.1.children })
    ]
    by (Some q) e rest = inr (0, record { node = n; left = q.0; right = q.1; at = refl; children = e })

holder_of : (x : CombinationState) → is_taken_combination x ≡ true → (w : ℕ) × (x ≡ TakenBy w)
holder_of Pending h = absurd (cc)
holder_of (TakenBy w) h = (w, refl)
holder_of (PassedAt time) h = absurd (cc)
holder_of (SplitAt p l r) h = absurd (cc)
holder_of HasFailed h = absurd (cc)

-- a step that is allowed and logged
pub record IsLogged (t : FrontierSetting) (s : FrontierState) : Type 0 where
  pub entry : FrontierEntry
  pub can : CanStep t s entry.worker entry.step
  pub logs : (step_of t s entry.worker entry.step).state.log ≡ s.log ++ entry ∷ []

module _ (t : FrontierSetting) (s : FrontierState) (lt : length s.log < t.budget) (unfailed : first is_failed s.combinations ≡ None) where
  room : is_full t s ≡ false
  room = grind (arith, nat_tests)

  logs_by : (w : ℕ) (step : FrontierStep) (x : FrontierOutcome) → stepped t s w step ≡ cond (is_full t s) (unchanged s Spent) x
      → x.state.log ≡ s.log ++ record { worker = w; step = step } ∷ [] → (step_of t s w step).state.log ≡ s.log ++ record { worker = w; step = step } ∷ []
  logs_by w step x e l =
      ap (λ o. (step_by t s w step o).state.log) unfailed ∙ (ap (λ (o : FrontierOutcome). o.state.log) e ∙ (ap (λ b. (cond b (unchanged s Spent) x).state.log) room ∙ l))

  settle_one : (id w : ℕ) (c : Combination) → slice_get s.combinations id ≡ Some c → c.state ≡ TakenBy w → IsLogged t s
  settle_one id w c at held = elim (passes_or t c.nodes) as (λ _. IsLogged t s) [
    | inl p ↦ record {
      entry = record { worker = w; step = Pass id p.0 };
      can = (c, record { at = at; held = held }, p.1);
      logs = logs_by w (Pass id p.0)
          (logged_outcome s (record { worker = w; step = Pass id p.0 }) (changed id (with_state (PassedAt p.0)) s.combinations) Passed) refl refl;
    }
    | inr none ↦ elim (concrete_or t c.nodes) as (λ _. IsLogged t s) [
      | inl leaves ↦ record {
        entry = record { worker = w; step = Fail id };
        can = (c, record { at = at; held = held }, (leaves, none));
        logs = logs_by w (Fail id)
            (logged_outcome s (record { worker = w; step = Fail id }) (changed id (with_state HasFailed) s.combinations) (Failed id)) refl refl;
      }
      | inr pair ↦ record {
        entry = record { worker = w; step = Split id pair.0 };
        can = (c, record { at = at; held = held }, pair.1);
        logs = logs_by w (Split id pair.0) (halved_at t s (record { worker = w; step = Split id pair.0 }) id pair.0 (slice_get s.combinations id)) refl
            (ap (λ (o : Option Combination). (halved_at t s (record { worker = w; step = Split id pair.0 }) id pair.0 o).state.log) at
            ∙ ap (λ (o : Option (ℕ × ℕ)). (halved t s (record { worker = w; step = Split id pair.0 }) id pair.0 c.nodes o).state.log)
            (let q : ℕ × ℕ = (pair.1.left, pair.1.right) in let e : children_at t (slice_get c.nodes pair.0) ≡ Some q = ap (λ o. children_at t o) pair.1.at ∙ pair.1.children in e));
      }
    ]
  ]

  by_taken : (o : Option ℕ) → first is_combination_taken s.combinations ≡ o → (u : Option ℕ) → first is_combination_pending s.combinations ≡ u → is_finished t s ≡ false → IsLogged t s
  by_taken (Some id) h u g unfinished =
      let f : Found is_combination_taken s.combinations id = found is_combination_taken s.combinations id h in
      let w : (w : ℕ) × (f.item.state ≡ TakenBy w) = holder_of f.item.state f.passes in
      settle_one id w.0 f.item f.at w.1
  by_taken None h (Some k) g unfinished = record {
    entry = record { worker = 0; step = Take };
    can = take_can t s 0 h;
    logs = logs_by 0 Take (logged_outcome s (record { worker = 0; step = Take }) (changed k (with_state (TakenBy 0)) s.combinations) (Taken k))
        (ap (λ o. taken t s 0 o (first is_combination_taken s.combinations)) g) refl;
  }
  by_taken None h None g unfinished =
      let yes : is_finished t s ≡ true = ap (λ o. is_none o && (is_none (first is_combination_taken s.combinations) && is_none (first is_failed s.combinations))) g
      ∙ (ap (λ o. is_none o && is_none (first is_failed s.combinations)) h ∙ ap (λ o. is_none o) unfailed) in
      absurd (let c : true ≡ false = sym yes ∙ unfinished in cc)

  pub goes_on : is_finished t s ≡ false → IsLogged t s
  goes_on unfinished = by_taken (first is_combination_taken s.combinations) refl (first is_combination_pending s.combinations) refl unfinished

-- a run that is neither finished nor failed can be lengthened
pub run_longer : (t : FrontierSetting) (es : List FrontierEntry) (budget : ℕ) → IsRun t es → is_finished t (replay t es) ≡ false
    → first is_failed (replay t es).combinations ≡ None → t.budget ≤ budget → length es < budget → CanGoOn t budget es
run_longer t es budget run unfinished unfailed more lt =
    let b : FrontierSetting = with_budget budget t in
    let same : IsRunFrom b (opening_state t) es × (replay_from b (opening_state t) es ≡ replay t es) = run_same t budget more es (opening_state t) run in
    let logs : (replay t es).log ≡ es = run_log (after t) (CanEnter t) (λ (s : FrontierState). s.log) es (opening_state t) run in
    let room : length (replay t es).log < budget = subst (λ (l : List FrontierEntry). length l < budget) (sym logs) lt in
    let one : IsLogged b (replay t es) = goes_on b (replay t es) room unfailed unfinished in
    let there : IsLogged b (replay_from b (opening_state t) es) = subst (λ (s : FrontierState). IsLogged b s) (sym same.1) one in
    record { entry = there.entry; run = run_join (after b) (CanEnter b) (λ (s : FrontierState). s.log) es (there.entry ∷ []) (opening_state t) same.0 (there.can, there.logs, tt) }
