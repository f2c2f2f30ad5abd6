use Rattle.std.proofs.Common.{◌≡◌, ◌<◌, Some, rules, arith, sym, ap, ◌∙◌}
use Rattle.std.proofs.lemmas.Bool.{ltb-true}
use Rattle.drt_model.specs.Digraph.{out_degree}
use Rattle.drt_rows_tests.proofs.Conditions.{held_within, can_offer}
use Rattle.drt_rows_tests.proofs.driver.may_offer.Goals as goal

pub node-requires-after_bounds : goal.node-requires-after_bounds
node-requires-after_bounds c κs = held_within c.args.table.now c.args.worker c.args.node (sym c.held_by.ensures ∙ (c.in-Some.is ∙ ap Some c.if-held-node.true))

pub node-requires-2-after_bounds : goal.node-requires-2-after_bounds
node-requires-2-after_bounds c κs = held_within c.args.table.now c.args.worker c.args.node (sym c.held_by.ensures ∙ (c.in-Some.is ∙ ap Some c.if-held-node.true))

pub returns : goal.returns
returns c passes =
    let offered : c.node.result.now.node.offered ≡ c.offered-offered.result = sym c.offered-offered.ensures in
    let vertex : c.label.inside.vertex ≡ c.node-2.result.now.node.label.vertex = search rules in
    let less = ltb-true c.args.edge c.out_degree.result passes in
    let next : c.args.edge ≡ c.offered-offered.result = omega (arith, c.if-edge-offered.false) in
    let degree = c.out_degree.ensures ∙ (ap (λ g. out_degree g c.label.inside.vertex) c.requires ∙ ap (λ x. out_degree c.args.table.now.graph x) vertex) in
    can_offer c.args.table.now c.args.worker c.args.node c.args.edge c.node.result.now c.node-2.result.now
    (sym c.held_by.ensures ∙ (c.in-Some.is ∙ ap Some c.if-held-node.true)) c.node.ensures c.node-2.ensures (next ∙ sym offered) (omega (arith, less, degree))
