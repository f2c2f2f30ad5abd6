use Rattle.std.proofs.Common.{ap, ◌∙◌, length}
use Rattle.drt_worklist.specs.Places.{first}
use Rattle.drt_refine.specs.Combination.{is_combination_pending, is_pending_combination}
use Rattle.drt_refine.specs.View.{FrontierView}
use Rattle.drt_refine.proofs.Flat.{first_combinations}
use Rattle.drt_refine.proofs.frontier.Frontier.first_pending.Goals as goal

pub returns : goal.returns
returns c =
    c.first_pending.ensures ∙ (first_combinations is_pending_combination (length c.self.inside.roots.items) c.self.inside.nodes.items c.self.inside.states.items
    ∙ ap (λ (v : FrontierView). first is_combination_pending v.combinations) c.self.view_is)
