use Rattle.std.proofs.Common.{ap, ◌∙◌, length}
use Rattle.drt_worklist.specs.Places.{first}
use Rattle.drt_refine.specs.Combination.{is_failed, is_failed_state}
use Rattle.drt_refine.specs.View.{FrontierView}
use Rattle.drt_refine.proofs.Flat.{first_combinations}
use Rattle.drt_refine.proofs.frontier.Frontier.first_failed.Goals as goal

pub returns : goal.returns
returns c =
    c.first_failed.ensures ∙ (first_combinations is_failed_state (length c.self.inside.roots.items) c.self.inside.nodes.items c.self.inside.states.items
    ∙ ap (λ (v : FrontierView). first is_failed v.combinations) c.self.view_is)
