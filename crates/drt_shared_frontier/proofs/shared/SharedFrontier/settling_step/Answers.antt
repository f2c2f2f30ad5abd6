-- The pass's copy is of nodes of the forest, and what is found of it is what settles it.
use Rattle.std.proofs.Common.{refl, sym, ap, ◌∙◌, subst, Some}
use Rattle.drt_steps.specs.Time.{AreChosen, Passes}
use Rattle.drt_refine.specs.Eager.{IsSplitPlace}
use Rattle.drt_refine.proofs.Below.{chosen_nodes}
use Rattle.drt_shared_frontier.specs.Passes.{SharedFrontierOf}
use Rattle.drt_shared_frontier.proofs.shared.SharedFrontier.settling_step.Goals as goal

pub choose_place-requires-clause-nodes : goal.choose_place-requires-clause-nodes
choose_place-requires-clause-nodes c =
    chosen_nodes c.args.forest.now c.all.ensures.forest c.args.self.now.setting.deadline c.args.nodes.now
    (subst (λ f. AreChosen c.args.self.now.setting.deadline f.pool c.args.nodes.now) (sym c.requires.forest) c.requires.nodes.0)

pub returns-in-Some-choose_place : goal.returns-in-Some-choose_place
returns-in-Some-choose_place c =
    let t = c.args.self.now.setting in
    let nodes = c.args.nodes.now in
    let wcet = ap (λ (s : SharedFrontierOf). s.setting.wcet) (sym c.self.view_is) ∙ c.self.invariant.1.wcet_is in
    let deadline = ap (λ (s : SharedFrontierOf). s.setting.deadline) (sym c.self.view_is) ∙ c.self.invariant.1.deadline_is in
    let place = subst (λ o. IsSplitPlace c.args.forest.now nodes o) c.in-Some-choose_place.is c.choose_place.ensures in (
      refl,
      (λ time p. c.in-None.ensures time
          (subst (λ w. Passes w c.self.inside.deadline c.all.result.now nodes time) wcet
          (subst (λ d. Passes t.wcet d c.all.result.now nodes time) deadline
          (subst (λ pool. Passes t.wcet t.deadline pool nodes time) (ap (λ f. f.pool) (sym c.requires.forest) ∙ sym c.all.ensures.value) p)))),
      subst (λ f. IsSplitPlace f nodes (Some c.in-Some-choose_place.place)) c.requires.forest place,
    )
