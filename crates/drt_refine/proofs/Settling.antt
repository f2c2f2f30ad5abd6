-- The step that a driver chooses: it is allowed, and it is eager.
use Rattle.std.proofs.Common.{◌≡◌, ℕ, false, Option, Some, None, sym, ap, ◌∙◌, subst}
use Rattle.std.specs.Prelude.{slice_get, IfSome}
use Rattle.std.proofs.lemmas.Option.{none-some, same_Some}
use Rattle.drt_worklist.specs.Places.{first}
use Rattle.drt_worklist.proofs.Lists.{none_found}
use Rattle.drt_refine.specs.Combination.{Combination, is_combination_taken, is_taken_combination}
use Rattle.drt_refine.specs.Machine.{FrontierSetting, FrontierState, CanStep, Holds}
use Rattle.drt_refine.specs.Eager.{IsEagerFor, IsEagerStep, settled_by}
use Rattle.drt_refine.specs.Drive.{Settles, IsDriven, IsTurn}
use Rattle.drt_refine.specs.declared.step.CombinationState.{CombinationState}
use Rattle.drt_refine.specs.declared.step.CombinationState.TheVariants.{Taken}
use Rattle.drt_refine.specs.declared.step.FrontierStep.{FrontierStep}
use Rattle.drt_refine.specs.declared.step.FrontierStep.TheVariants.{Take, Pass, Split, Fail}

pub some_if : (o : Option Combination) (P : Combination → Type 0) (x : Combination) → IfSome o P → o ≡ Some x → P x
some_if None P x h e = absurd (none-some x e)
some_if (Some y) P x h e = subst P (same_Some y x e) h

module _ (t : FrontierSetting) (s : FrontierState) (w id : ℕ) (c : Combination) (at : slice_get s.combinations id ≡ Some c) (held : c.state ≡ Taken w) where
  holds : (k : ℕ) → k ≡ id → Holds t s w k c
  holds k e = record { at = ap (λ n. slice_get s.combinations n) e ∙ at; held = held }

  -- the worker that holds the combination may make the step
  pub settle_can : (step : FrontierStep) → Settles t id c step → CanStep t s w step
  settle_can Take h = elim h [ ]
  settle_can (Pass k time) h = (c, holds k h.0, h.1.passes)
  settle_can (Split k place) h = (c, holds k h.0, record { node = h.2.0.node; left = h.2.1; right = h.2.2; at = h.2.0.at; children = h.2.3 })
  settle_can (Fail k) h = (c, holds k h.0, h.1)

  eager_for : (step : FrontierStep) → Settles t id c step → IsEagerFor t c step
  eager_for Take h = tt
  eager_for (Pass k time) h = h.1
  eager_for (Split k place) h = (h.1, h.2.0)
  eager_for (Fail k) h = tt

  settled_is : (step : FrontierStep) (j : ℕ) → Settles t id c step → settled_by t step ≡ Some j → j ≡ id
  settled_is Take j h e = elim h [ ]
  settled_is (Pass k time) j h e = sym (same_Some k j e) ∙ h.0
  settled_is (Split k place) j h e = sym (same_Some k j e) ∙ h.0
  settled_is (Fail k) j h e = sym (same_Some k j e) ∙ h.0

  pub settle_eager : (step : FrontierStep) → Settles t id c step → IsEagerStep t s (record { worker = w; step = step })
  settle_eager step h j x e here = subst (λ (y : Combination). IsEagerFor t y step)
      (same_Some c x (sym at ∙ (ap (λ n. slice_get s.combinations n) (sym (settled_is step j h e)) ∙ here))) (eager_for step h)

-- it settles where one is taken
pub settle_turn : (t : FrontierSetting) (s : FrontierState) (id : ℕ) (c : Combination) → first is_combination_taken s.combinations ≡ Some id → (step : FrontierStep)
    → Settles t id c step → IsTurn t s step
settle_turn t s id c h Take g = elim g [ ]
settle_turn t s id c h (Pass k time) g = (id, h)
settle_turn t s id c h (Split k place) g = (id, h)
settle_turn t s id c h (Fail k) g = (id, h)

take_or : (t : FrontierSetting) (id : ℕ) (c : Combination) (P : Type 0) (step : FrontierStep) → Settles t id c step → step ≡ Take → P
take_or t id c P step g e = elim (subst (λ (x : FrontierStep). Settles t id c x) e g) [ ]

pub settle_driven : (t : FrontierSetting) (s : FrontierState) (d w id : ℕ) (c : Combination) (step : FrontierStep) → Settles t id c step → IsDriven d s (record { worker = w; step = step })
settle_driven t s d w id c step g e = take_or t id c ((w ≡ d) × (first is_combination_taken s.combinations ≡ None)) step g e

untaken : (x : CombinationState) (w : ℕ) → x ≡ Taken w → is_taken_combination x ≡ false → ⊥
untaken x w e h = absurd (let t : is_taken_combination (Taken w) ≡ false = ap is_taken_combination (sym e) ∙ h in cc)

-- a worker may take where no combination is taken
pub take_can : (t : FrontierSetting) (s : FrontierState) (w : ℕ) → first is_combination_taken s.combinations ≡ None → CanStep t s w Take
take_can t s w none id c at held = untaken c.state w held (none_found is_combination_taken s.combinations none id c at)

pub take_eager : (t : FrontierSetting) (s : FrontierState) (w : ℕ) → IsEagerStep t s (record { worker = w; step = Take })
take_eager t s w id c e at = absurd (none-some id e)
