use Rattle.std.proofs.Common.{◌≡◌, ap, ◌∙◌, arith, length}
use Rattle.drt_worklist.specs.Places.{first}
use Rattle.drt_refine.specs.Combination.{is_combination_taken, is_taken_combination}
use Rattle.drt_refine.specs.View.{FrontierView}
use Rattle.drt_refine.proofs.Flat.{first_combinations}
use Rattle.drt_refine.proofs.frontier.Frontier.first_taken.Goals as goal

pub returns-clause-value : goal.returns-clause-value
returns-clause-value c =
    c.first_taken.ensures ∙ (first_combinations is_taken_combination (length c.self.inside.roots.items) c.self.inside.nodes.items c.self.inside.states.items
    ∙ ap (λ (v : FrontierView). first is_combination_taken v.combinations) c.self.view_is)

pub returns-clause-within : goal.returns-clause-within
returns-clause-within c =
    let l : length c.self.inside.log.items ≡ length c.args.self.now.log = ap (λ (v : FrontierView). length v.log) c.self.view_is in
    let b : c.self.inside.budget ≡ c.args.self.now.budget = ap (λ (v : FrontierView). v.budget) c.self.view_is in
    omega (arith, c.self.invariant.3)
