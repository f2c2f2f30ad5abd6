use Rattle.std.proofs.Common.{ap, ◌∙◌, length}
use Rattle.drt_worklist.specs.Places.{first}
use Rattle.drt_refine.specs.Combination.{is_combination_held_by, is_held_state}
use Rattle.drt_refine.specs.View.{FrontierView}
use Rattle.drt_refine.proofs.Flat.{first_combinations}
use Rattle.drt_refine.proofs.frontier.Frontier.held_by.Goals as goal

pub returns : goal.returns
returns c =
    c.held_by.ensures ∙ (first_combinations (is_held_state c.args.worker) (length c.self.inside.roots.items) c.self.inside.nodes.items c.self.inside.states.items
    ∙ ap (λ (v : FrontierView). first (is_combination_held_by c.args.worker) v.combinations) c.self.view_is)
