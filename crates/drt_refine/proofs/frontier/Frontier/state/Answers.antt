use Rattle.std.proofs.Common.{◌≡◌, Option, Some, None, length, refl, sym, ap, ◌∙◌, arith}
use Rattle.std.specs.Prelude.{slice_get, IfSome}
use Rattle.std.proofs.lemmas.Option.{same_Some}
use Rattle.drt_refine.specs.Combination.{Combination}
use Rattle.drt_refine.specs.View.{FrontierView}
use Rattle.drt_refine.proofs.Flat.{CombinationAt, combination_at, length_combinations}
use Rattle.drt_refine.proofs.frontier.Frontier.state.Goals as goal

if_some : (o : Option Combination) (P : Combination → Type 0) → ((x : Combination) → o ≡ Some x → P x) → IfSome o P
if_some None P h = tt
if_some (Some x) P h = h x refl

pub at-requires : goal.at-requires
at-requires c =
    let n : length c.self.inside.states.items ≡ length c.args.self.now.combinations
    = sym (length_combinations (length c.self.inside.roots.items) c.self.inside.nodes.items c.self.inside.states.items) ∙ ap (λ (v : FrontierView). length v.combinations) c.self.view_is in
    omega (arith, c.requires)

pub returns : goal.returns
returns c =
    if_some (slice_get c.args.self.now.combinations c.args.id) _ (λ x at.
    let a : CombinationAt (length c.self.inside.roots.items) c.self.inside.nodes.items c.self.inside.states.items c.args.id x
    = combination_at (length c.self.inside.roots.items) c.self.inside.nodes.items c.self.inside.states.items c.args.id x
    (ap (λ (v : FrontierView). slice_get v.combinations c.args.id) c.self.view_is ∙ at) in
    same_Some c.at.result x.state (sym c.at.ensures ∙ a.state_at))
