-- The step Split: what its conditions give, and what it does.
use Rattle.std.proofs.Common.{◌≡◌, ℕ, ◌+◌, ◌<◌, true, false, cond, Some, None, [], ◌∷◌, ◌++◌, length, sym, ap, ◌∙◌, set}
use Rattle.std.specs.Prelude.{slice_get, nat_le}
use Rattle.drt_worklist.specs.Places.{first}
use Rattle.drt_tree.specs.Tree.{Plain, children}
use Rattle.drt_refine.specs.Facts.{Facts}
use Rattle.drt_refine.specs.View.{FrontierView, setting_of, state_of, moved, IsFrontierStep, IsFrontier, CanApply}
use Rattle.drt_refine.specs.Combination.{Combination, is_failed, is_combination_taken, is_taken_combination}
use Rattle.drt_refine.specs.Machine.{halves, step_by, unchanged, halved, halved_at, children_at}
use Rattle.drt_refine.specs.declared.step.CombinationState.{CombinationState}
use Rattle.drt_refine.specs.declared.step.FrontierStep.TheVariants.{Split}
use Rattle.drt_refine.specs.declared.step.FrontierReply.{FrontierReply}
use Rattle.drt_refine.specs.declared.step.FrontierEntry.{FrontierEntry}
use Rattle.drt_refine.specs.declared.step.FrontierReply.TheVariants.{Halved, Spent}
use Rattle.drt_refine.proofs.Below.{child_within}
use Rattle.drt_refine.proofs.Making.{made, frontier_facts}

-- what the conditions of a Split give
pub record Splitting (p : Plain) (v : FrontierView) (w id place : ℕ) : Type 0 where
  pub combination : Combination
  pub node : ℕ
  pub left : ℕ
  pub right : ℕ
  pub at : slice_get v.combinations id ≡ Some combination
  pub taken : is_combination_taken combination ≡ true
  pub wide : length combination.nodes ≡ length v.roots
  pub node_at : slice_get combination.nodes place ≡ Some node
  pub pair : children p node ≡ Some (left, right)
  pub within : node < length p.nodes

pub splitting : (p : Plain) (v : FrontierView) (w id place : ℕ) → IsFrontier p v → CanApply p v w (Split id place) → Splitting p v w id place
splitting p v w id place front can =
    let facts : Facts (setting_of p v) v.combinations = frontier_facts p v front in
    record {
      combination = can.0;
      node = can.2.node;
      left = can.2.left;
      right = can.2.right;
      at = can.1.at;
      taken = ap (λ (x : CombinationState). is_taken_combination x) can.1.held;
      wide = (facts.nodes id can.0 can.1.at).1;
      node_at = can.2.at;
      pair = can.2.children;
      within = child_within p can.2.node can.2.left can.2.right can.2.children;
    }

pub split_step : (p : Plain) (old new : FrontierView) (w id place n left right : ℕ) (c : Combination) (reply : FrontierReply) → first is_failed old.combinations ≡ None
    → false ≡ nat_le old.budget (length old.log) → slice_get old.combinations id ≡ Some c → slice_get c.nodes place ≡ Some n → children p n ≡ Some (left, right) →
    new ≡ moved old (record {
      combinations = halves old.combinations id place (set c.nodes place left) (set c.nodes place right);
      log = old.log ++ record
          { worker = w; step = Split id place } ∷ [];
    }) → reply ≡ Halved (length old.combinations) (length old.combinations + 1) → IsFrontierStep p old new w (Split id place) reply
split_step p old new w id place n left right c reply f h at node_at pair is r =
    let t = setting_of p old in
    let s = state_of old in
    let e : FrontierEntry = record { worker = w; step = Split id place } in
    let q : ℕ × ℕ = (left, right) in
    made p old w new (Split id place) reply (halved t s e id place c.nodes (Some q))
    (ap (λ y. step_by t s w (Split id place) y) f
    ∙ (ap (λ y. cond y (unchanged s Spent) (halved_at t s e id place (slice_get old.combinations id))) (sym h)
    ∙ (ap (λ y. halved_at t s e id place y) at
    ∙ ap (λ y. halved t s e id place c.nodes y) (ap (λ y. children_at t y) node_at ∙ pair)))) is r
