-- What holds after any run, whoever made its steps: where it is finished, and where a combination has failed.
use Rattle.std.proofs.Common.{◌≡◌, ℕ, suc, zero, ◌≤◌, Bool, true, false, Option, Some, None, List, [], ◌∷◌, refl, subst}
use Rattle.std.specs.Prelude.{slice_get, is_none, ◌&&◌}
use Rattle.std.proofs.lemmas.Option.{none-some, same_Some}
use Rattle.drt_steps.specs.Values.{value_at}
use Rattle.drt_steps.specs.Time.{AreChosen}
use Rattle.drt_tree.specs.Tree.{IsForest, IsUnder, node_values_in}
use Rattle.drt_worklist.specs.Places.{first}
use Rattle.drt_worklist.proofs.Lists.{Found, found, none_found}
use Rattle.drt_worklist.proofs.Runs.{run_keeps}
use Rattle.drt_refine.specs.Below.{AreBelow}
use Rattle.drt_refine.specs.Combination.{Combination, fresh_combination, is_combination_pending, is_pending_combination, is_combination_taken, is_taken_combination, is_failed, is_failed_state, is_split_state}
use Rattle.drt_refine.specs.Machine.{FrontierSetting, FrontierState, opening_state, after, CanEnter, replay, IsRun, is_finished, PassesFor, IsHopeless}
use Rattle.drt_refine.specs.Facts.{IsTrueOf, IsStanding, Facts, AreInPlace, IsPassed}
use Rattle.drt_refine.specs.declared.step.CombinationState.{CombinationState}
use Rattle.drt_refine.specs.declared.step.CombinationState.TheVariants.{Pending, Taken as TakenBy, Passed as PassedAt, Split as SplitAt, Failed as HasFailed}
use Rattle.drt_refine.specs.declared.step.FrontierEntry.{FrontierEntry}
use Rattle.drt_refine.proofs.Below.{passes_below}
use Rattle.drt_refine.proofs.Steps.{step_keeps}

module _ (t : FrontierSetting) (forest : IsForest t.forest) (roots : AreChosen t.deadline t.forest.pool t.roots) where
  opening_told : (id : ℕ) (x : Combination) → slice_get (fresh_combination t.roots ∷ []) id ≡ Some x → IsTrueOf t x.nodes x.state × AreInPlace t x.nodes
  opening_told zero x h = subst (λ (y : Combination). IsTrueOf t y.nodes y.state × AreInPlace t y.nodes) (same_Some (fresh_combination t.roots) x h) (tt, (roots, refl))
  opening_told (suc i) x h = absurd (none-some x h)

  opening_facts : Facts t (opening_state t).combinations
  opening_facts = record {
    covers = λ tuple h. record { id = 0; combination = fresh_combination t.roots; at = refl; stands = refl; below = h };
    states = λ id x h. (opening_told id x h).0;
    nodes = λ id x h. (opening_told id x h).1;
  }

  -- the facts hold after every run
  pub run_facts : (es : List FrontierEntry) → IsRun t es → Facts t (replay t es).combinations
  run_facts es run = run_keeps (after t) (CanEnter t) (λ (s : FrontierState). s.log) (λ (s : FrontierState). Facts t s.combinations)
      (λ s e can facts. step_keeps t forest s e.worker facts e.step can) es (opening_state t) opening_facts run

and_left : (b c : Bool) → (b && c) ≡ true → b ≡ true
and_left true c h = refl
and_left false c h = absurd (cc)

and_right : (b c : Bool) → (b && c) ≡ true → c ≡ true
and_right true c h = h
and_right false c h = absurd (cc)

none_of : (o : Option ℕ) → is_none o ≡ true → o ≡ None
none_of None e = refl
none_of (Some k) e = absurd (cc)

-- where the state is finished, none is pending, taken or failed
pub record AreNone (s : FrontierState) : Type 0 where
  pub pending : first is_combination_pending s.combinations ≡ None
  pub taken : first is_combination_taken s.combinations ≡ None
  pub failed : first is_failed s.combinations ≡ None

pub finished_none : (t : FrontierSetting) (s : FrontierState) → is_finished t s ≡ true → AreNone s
finished_none t s h =
    let p : Bool = is_none (first is_combination_pending s.combinations) in
    let q : Bool = is_none (first is_combination_taken s.combinations) in
    let r : Bool = is_none (first is_failed s.combinations) in
    let qr : (q && r) ≡ true = and_right p (q && r) h in
    record {
      pending = none_of (first is_combination_pending s.combinations) (and_left p (q && r) h);
      taken = none_of (first is_combination_taken s.combinations) (and_left q r qr);
      failed = none_of (first is_failed s.combinations) (and_right q r qr);
    }

record IsTime (s : CombinationState) : Type 0 where
  time : ℕ
  is : s ≡ PassedAt time

time_of : (s : CombinationState) → is_pending_combination s ≡ false → is_taken_combination s ≡ false → is_failed_state s ≡ false → is_split_state s ≡ false → IsTime s
time_of Pending p q r u = absurd (cc)
time_of (TakenBy w) p q r u = absurd (cc)
time_of (PassedAt time) p q r u = record { time = time; is = refl }
time_of (SplitAt x y z) p q r u = absurd (cc)
time_of HasFailed p q r u = absurd (cc)

failed_state : (x : CombinationState) → is_failed_state x ≡ true → x ≡ HasFailed
failed_state Pending h = absurd (cc)
failed_state (TakenBy w) h = absurd (cc)
failed_state (PassedAt time) h = absurd (cc)
failed_state (SplitAt a b c) h = absurd (cc)
failed_state HasFailed h = refl

module _ (t : FrontierSetting) (s : FrontierState) (facts : Facts t s.combinations) where
  -- where it is finished, each tuple below the roots is below a passed combination, whose time passes for the tuple
  pub finished_passed : ((leaf n u : ℕ) → IsUnder t.forest leaf n → value_at (node_values_in t.forest leaf) u ≤ value_at (node_values_in t.forest n) u)
      → is_finished t s ≡ true → (tuple : List ℕ) → AreBelow t.forest tuple t.roots → IsPassed t s.combinations tuple
  finished_passed above h tuple below =
      let none : AreNone s = finished_none t s h in
      let o : IsStanding t s.combinations tuple = facts.covers tuple below in
      let u : IsTime o.combination.state = time_of o.combination.state
      (none_found is_combination_pending s.combinations none.pending o.id o.combination o.at)
      (none_found is_combination_taken s.combinations none.taken o.id o.combination o.at)
      (none_found is_failed s.combinations none.failed o.id o.combination o.at) o.stands in
      let p : PassesFor t o.combination.nodes u.time = subst (λ (x : CombinationState). IsTrueOf t o.combination.nodes x) u.is (facts.states o.id o.combination o.at) in
      record {
        id = o.id;
        combination = o.combination;
        time = u.time;
        at = o.at;
        passed = u.is;
        below = o.below;
        whole = p;
        tuple_passes = passes_below t.forest above t.wcet t.deadline tuple o.combination.nodes u.time o.below p;
      }

  -- where one has failed, it is concrete and no time passes
  pub failed_hopeless : (id : ℕ) → first is_failed s.combinations ≡ Some id → (c : Combination) × (slice_get s.combinations id ≡ Some c) × IsHopeless t c.nodes
  failed_hopeless id h =
      let f : Found is_failed s.combinations id = found is_failed s.combinations id h in
      (f.item, f.at, subst (λ (x : CombinationState). IsTrueOf t f.item.nodes x) (failed_state f.item.state f.passes) (facts.states id f.item f.at))
