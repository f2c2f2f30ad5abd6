use Rattle.std.proofs.Common.{ap, ◌∙◌, sym, length}
use Rattle.drt_refine.specs.View.{FrontierView}
use Rattle.drt_refine.proofs.Flat.{length_combinations}
use Rattle.drt_refine.proofs.frontier.Frontier.count.Goals as goal

pub returns : goal.returns
returns c =
    c.count.ensures.value
    ∙ (sym (length_combinations (length c.self.inside.roots.items) c.self.inside.nodes.items c.self.inside.states.items) ∙ ap (λ (v : FrontierView). length v.combinations) c.self.view_is)
