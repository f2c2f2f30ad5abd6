use Rattle.std.proofs.Common.{◌≡◌, ℕ, Some, refl, sym, ap, ◌∙◌}
use Rattle.std.proofs.lemmas.Option.{same_Some}
use Rattle.drt_label.specs.Algebra.{Algebra}
use Rattle.drt_table.specs.Earliest.{earliest}
use Rattle.drt_table.specs.Held.{held_offset}
use Rattle.drt_table.specs.Machine.{extended}
use Rattle.drt_table.specs.Node.{Held, is_taken}
use Rattle.drt_table.specs.View.{View, ComesWith, setting_of}
use Rattle.drt_table.specs.declared.step.TableStep.TheVariants.{Offer}
use Rattle.drt_table.proofs.Turning.{turn_within, turn_taken, turn_vertex, turn_extends, may_offer, turn_offer, may_close, turn_close}
use Rattle.drt_table.proofs.table.Table.go_on.Goals as goal

-- the fields of the table have the node as their taken node of least offset too
held_at : {L : Type 0} (a : Algebra L) (v x : View L) → v ≡ x → (id : ℕ) → earliest (λ (h : Held L). is_taken h.node) (held_offset a) x.nodes ≡ Some id
    → Some id ≡ earliest (λ (h : Held L). is_taken h.node) (held_offset a) v.nodes
held_at {L} a v x same id is = sym (ap (λ (y : View L). earliest (λ (h : Held L). is_taken h.node) (held_offset a) y.nodes) same ∙ is)

pub node-node-requires-after_bounds : goal.node-node-requires-after_bounds
node-node-requires-after_bounds g c κs within =
    let laws = (g.met.L.Label g.world.𝓛 g.world.𝓜 g.world.𝓡 ((λ s x. x), (λ x. x), (λ x. x), λ x. x)).laws in
    turn_within g.L.Label.algebra laws _ _ c.self.invariant.0 c.self.view_is _ (held_at g.L.Label.algebra _ _ c.self.view_is c.args.id c.requires)
    c.args.id refl

pub holder-holder-requires-after_bounds : goal.holder-holder-requires-after_bounds
holder-holder-requires-after_bounds g c κs within =
    let laws = (g.met.L.Label g.world.𝓛 g.world.𝓜 g.world.𝓡 ((λ s x. x), (λ x. x), (λ x. x), λ x. x)).laws in
    turn_taken g.L.Label.algebra laws _ _ c.self.invariant.0 c.self.view_is _ (held_at g.L.Label.algebra _ _ c.self.view_is c.args.id c.requires)
    c.args.id refl _ c.node-node.ensures

pub out_degree-requires : goal.out_degree-requires
out_degree-requires g c =
    let laws = (g.met.L.Label g.world.𝓛 g.world.𝓜 g.world.𝓡 ((λ s x. x), (λ x. x), (λ x. x), λ x. x)).laws in
    turn_vertex g.L.Label.algebra laws _ _ c.self.invariant.0 c.self.view_is _ (held_at g.L.Label.algebra _ _ c.self.view_is c.args.id c.requires)
    c.args.id refl _ c.node-node.ensures _ _ c.vertex.ensures c.offered-edge.ensures

pub extended-requires-after_bounds : goal.extended-requires-after_bounds
extended-requires-after_bounds g c κs within =
    let laws = (g.met.L.Label g.world.𝓛 g.world.𝓜 g.world.𝓡 ((λ s x. x), (λ x. x), (λ x. x), λ x. x)).laws in
    turn_extends g.L.Label.algebra laws _ _ c.self.invariant.0 c.self.view_is _ (held_at g.L.Label.algebra _ _ c.self.view_is c.args.id c.requires)
    c.args.id refl _ c.node-node.ensures _ _ c.vertex.ensures c.offered-edge.ensures _ c.out_degree.ensures c.if-edge-out_degree.true

pub offer-requires-clause-can : goal.offer-requires-clause-can
offer-requires-clause-can g c κs within =
    let laws = (g.met.L.Label g.world.𝓛 g.world.𝓜 g.world.𝓡 ((λ s x. x), (λ x. x), (λ x. x), λ x. x)).laws in
    may_offer g.L.Label.algebra laws _ _ c.self.invariant.0 c.self.view_is _ (held_at g.L.Label.algebra _ _ c.self.view_is c.args.id c.requires)
    c.args.id refl _ c.node-node.ensures _ _ c.vertex.ensures c.offered-edge.ensures _ c.out_degree.ensures c.if-edge-out_degree.true _ c.holder-holder.ensures

pub offer-requires-clause-comes : goal.offer-requires-clause-comes
offer-requires-clause-comes g c κs within =
    let a = g.L.Label.algebra in
    let e : ComesWith a c.args.self.now (Offer c.args.id c.offered-edge.result) (Some c.in_ok-twin.twin) = c.in_ok-twin.ensures in
    (e.0, e.1, same_Some c.in_ok-twin.twin (extended a (setting_of c.args.self.now) e.0.label c.offered-edge.result) e.2)

pub close-requires-after_bounds : goal.close-requires-after_bounds
close-requires-after_bounds g c κs within =
    let laws = (g.met.L.Label g.world.𝓛 g.world.𝓜 g.world.𝓡 ((λ s x. x), (λ x. x), (λ x. x), λ x. x)).laws in
    may_close g.L.Label.algebra laws _ _ c.self.invariant.0 c.self.view_is _ (held_at g.L.Label.algebra _ _ c.self.view_is c.args.id c.requires)
    c.args.id refl _ c.node-node.ensures _ _ c.vertex.ensures c.offered-edge.ensures _ c.out_degree.ensures c.if-edge-out_degree.false _ c.holder-holder.ensures

pub returns-in_ok-twin-clause-turn : goal.returns-in_ok-twin-clause-turn
returns-in_ok-twin-clause-turn g c w =
    let laws = (g.met.L.Label g.world.𝓛 g.world.𝓜 g.world.𝓡 ((λ s x. x), (λ x. x), (λ x. x), λ x. x)).laws in
    turn_offer g.L.Label.algebra laws _ _ c.self.invariant.0 c.self.view_is _ (held_at g.L.Label.algebra _ _ c.self.view_is c.args.id c.requires)
    c.args.id refl _ c.node-node.ensures _ _ c.vertex.ensures c.offered-edge.ensures _ c.out_degree.ensures c.if-edge-out_degree.true w _
    c.offer.new.self c.offer.result c.holder-holder.ensures c.offer.ensures

pub returns-else-edge-out_degree-clause-turn : goal.returns-else-edge-out_degree-clause-turn
returns-else-edge-out_degree-clause-turn g c w =
    let laws = (g.met.L.Label g.world.𝓛 g.world.𝓜 g.world.𝓡 ((λ s x. x), (λ x. x), (λ x. x), λ x. x)).laws in
    turn_close g.L.Label.algebra laws _ _ c.self.invariant.0 c.self.view_is _ (held_at g.L.Label.algebra _ _ c.self.view_is c.args.id c.requires)
    c.args.id refl _ c.node-node.ensures _ _ c.vertex.ensures c.offered-edge.ensures _ c.out_degree.ensures c.if-edge-out_degree.false w _
    c.close.new.self c.close.result c.holder-holder.ensures c.close.ensures
