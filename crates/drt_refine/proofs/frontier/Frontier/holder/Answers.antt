use Rattle.std.proofs.Common.{◌≡◌, ℕ, true, Some, List, length, sym, ap, ◌∙◌}
use Rattle.std.specs.Prelude.{slice_get}
use Rattle.std.proofs.lemmas.Option.{same_Some, slice_get_within}
use Rattle.drt_worklist.specs.Places.{first}
use Rattle.drt_worklist.proofs.Lists.{Found, found}
use Rattle.drt_refine.specs.Combination.{Combination, is_combination_taken, is_taken_combination}
use Rattle.drt_refine.specs.View.{FrontierView, combinations_of}
use Rattle.drt_refine.specs.declared.step.CombinationState.{CombinationState}
use Rattle.drt_refine.proofs.Sorted.{clash}
use Rattle.drt_refine.proofs.Flat.{CombinationAt, combination_at}
use Rattle.drt_refine.proofs.frontier.Frontier.holder.Goals as goal

-- the state of the first taken combination
record Holding (states : List CombinationState) (combinations : List Combination) (id : ℕ) : Type 0 where
  combination : Combination
  at : slice_get combinations id ≡ Some combination
  state : slice_get states id ≡ Some combination.state
  taken : is_taken_combination combination.state ≡ true

holding : (w : ℕ) (nodes : List ℕ) (states : List CombinationState) (combinations : List Combination) (id : ℕ) → combinations_of w nodes states ≡ combinations
    → first is_combination_taken combinations ≡ Some id → Holding states combinations id
holding w nodes states combinations id is h =
    let f : Found is_combination_taken combinations id = found is_combination_taken combinations id h in
    let a : CombinationAt w nodes states id f.item = combination_at w nodes states id f.item (ap (λ cs. slice_get cs id) is ∙ f.at) in
    record { combination = f.item; at = f.at; state = a.state_at; taken = f.passes }

-- the state that was read
read : (states : List CombinationState) (combinations : List Combination) (id : ℕ) (s : CombinationState) → Holding states combinations id → slice_get states id ≡ Some s
    → is_taken_combination s ≡ true
read states combinations id s h at = ap is_taken_combination (same_Some s h.combination.state (sym at ∙ h.state)) ∙ h.taken

pub at-requires : goal.at-requires
at-requires c =
    let h : Holding c.self.inside.states.items c.args.self.now.combinations c.args.id = holding (length c.self.inside.roots.items) c.self.inside.nodes.items
    c.self.inside.states.items c.args.self.now.combinations c.args.id (ap (λ (v : FrontierView). v.combinations) c.self.view_is) c.requires in
    slice_get_within c.self.inside.states.items c.args.id h.combination.state h.state

pub unreachable-requires : goal.unreachable-requires
unreachable-requires c =
    let h : Holding c.self.inside.states.items c.args.self.now.combinations c.args.id = holding (length c.self.inside.roots.items) c.self.inside.nodes.items
    c.self.inside.states.items c.args.self.now.combinations c.args.id (ap (λ (v : FrontierView). v.combinations) c.self.view_is) c.requires in
    absurd (clash (is_taken_combination c.at.result) (read c.self.inside.states.items c.args.self.now.combinations c.args.id c.at.result h c.at.ensures) (ap is_taken_combination c.in-Pending.is))

pub unreachable-requires-in-Passed : goal.unreachable-requires-in-Passed
unreachable-requires-in-Passed c =
    let h : Holding c.self.inside.states.items c.args.self.now.combinations c.args.id = holding (length c.self.inside.roots.items) c.self.inside.nodes.items
    c.self.inside.states.items c.args.self.now.combinations c.args.id (ap (λ (v : FrontierView). v.combinations) c.self.view_is) c.requires in
    absurd (clash (is_taken_combination c.at.result) (read c.self.inside.states.items c.args.self.now.combinations c.args.id c.at.result h c.at.ensures) (ap is_taken_combination c.in-Passed.is))

pub unreachable-requires-in-Split : goal.unreachable-requires-in-Split
unreachable-requires-in-Split c =
    let h : Holding c.self.inside.states.items c.args.self.now.combinations c.args.id = holding (length c.self.inside.roots.items) c.self.inside.nodes.items
    c.self.inside.states.items c.args.self.now.combinations c.args.id (ap (λ (v : FrontierView). v.combinations) c.self.view_is) c.requires in
    absurd (clash (is_taken_combination c.at.result) (read c.self.inside.states.items c.args.self.now.combinations c.args.id c.at.result h c.at.ensures) (ap is_taken_combination c.in-Split.is))

pub unreachable-requires-in-Failed : goal.unreachable-requires-in-Failed
unreachable-requires-in-Failed c =
    let h : Holding c.self.inside.states.items c.args.self.now.combinations c.args.id = holding (length c.self.inside.roots.items) c.self.inside.nodes.items
    c.self.inside.states.items c.args.self.now.combinations c.args.id (ap (λ (v : FrontierView). v.combinations) c.self.view_is) c.requires in
    absurd (clash (is_taken_combination c.at.result) (read c.self.inside.states.items c.args.self.now.combinations c.args.id c.at.result h c.at.ensures) (ap is_taken_combination c.in-Failed.is))

pub returns : goal.returns
returns c y here =
    let h : Holding c.self.inside.states.items c.args.self.now.combinations c.args.id = holding (length c.self.inside.roots.items) c.self.inside.nodes.items
    c.self.inside.states.items c.args.self.now.combinations c.args.id (ap (λ (v : FrontierView). v.combinations) c.self.view_is) c.requires in
    ap (λ (x : Combination). x.state) (same_Some y h.combination (sym here ∙ h.at)) ∙ (same_Some h.combination.state c.at.result (sym h.state ∙ c.at.ensures) ∙ c.in-Taken.is)
