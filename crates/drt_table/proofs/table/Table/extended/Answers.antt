use Rattle.std.proofs.Common.{◌≡◌, ◌<◌, Some, length, sym, ap, ◌∙◌, subst}
use Rattle.std.proofs.lemmas.Result.{IfOk-weaker}
use Rattle.drt_model.specs.Limits.{IsTime}
use Rattle.drt_model.specs.Digraph.{edge_of, vertex_of, out_degree}
use Rattle.drt_table.specs.Machine.{extended}
use Rattle.drt_table.specs.Node.{Held}
use Rattle.drt_table.specs.View.{View, setting_of, ComesWith}
use Rattle.drt_table.specs.declared.step.TableStep.TheVariants.{Offer}
use Rattle.drt_table.proofs.Offering.{extends_within, extending}
use Rattle.drt_table.proofs.table.Table.extended.Goals as goal

pub node-node-requires-after_bounds : goal.node-node-requires-after_bounds
node-node-requires-after_bounds g c κs within = extends_within g.L.Label.algebra _ _ c.self.view_is c.args.id c.args.edge c.requires

pub out_edge-requires-clause-vertex : goal.out_edge-requires-clause-vertex
out_edge-requires-clause-vertex g c =
    let laws = (g.met.L.Label g.world.𝓛 g.world.𝓜 g.world.𝓡 ((λ s x. x), (λ x. x), (λ x. x), λ x. x)).laws in
    let e = extending g.L.Label.algebra laws _ _ c.self.invariant.0 c.self.view_is c.args.id c.args.edge c.requires c.node-node.result.now c.node-node.ensures in
    subst (λ x. x < length c.self.inside.graph.vertices) (sym c.vertex.ensures) e.vertex

pub out_edge-requires-clause-edge : goal.out_edge-requires-clause-edge
out_edge-requires-clause-edge g c =
    let laws = (g.met.L.Label g.world.𝓛 g.world.𝓜 g.world.𝓡 ((λ s x. x), (λ x. x), (λ x. x), λ x. x)).laws in
    let e = extending g.L.Label.algebra laws _ _ c.self.invariant.0 c.self.view_is c.args.id c.args.edge c.requires c.node-node.result.now c.node-node.ensures in
    subst (λ x. c.args.edge < out_degree c.self.inside.graph x) (sym c.vertex.ensures) e.edge

pub extend-requires-clause-extendable : goal.extend-requires-clause-extendable
extend-requires-clause-extendable g c κs within =
    let laws = (g.met.L.Label g.world.𝓛 g.world.𝓜 g.world.𝓡 ((λ s x. x), (λ x. x), (λ x. x), λ x. x)).laws in
    let e = extending g.L.Label.algebra laws _ _ c.self.invariant.0 c.self.view_is c.args.id c.args.edge c.requires c.node-node.result.now c.node-node.ensures in
    e.extendable

pub extend-requires-clause-sep : goal.extend-requires-clause-sep
extend-requires-clause-sep g c κs within =
    let laws = (g.met.L.Label g.world.𝓛 g.world.𝓜 g.world.𝓡 ((λ s x. x), (λ x. x), (λ x. x), λ x. x)).laws in
    let e = extending g.L.Label.algebra laws _ _ c.self.invariant.0 c.self.view_is c.args.id c.args.edge c.requires c.node-node.result.now c.node-node.ensures in
    e.sep c.vertex.result c.out_edge.result.now c.vertex.ensures c.out_edge.ensures

pub vertex-requires-2 : goal.vertex-requires-2
vertex-requires-2 g c =
    let laws = (g.met.L.Label g.world.𝓛 g.world.𝓜 g.world.𝓡 ((λ s x. x), (λ x. x), (λ x. x), λ x. x)).laws in
    let e = extending g.L.Label.algebra laws _ _ c.self.invariant.0 c.self.view_is c.args.id c.args.edge c.requires c.node-node.result.now c.node-node.ensures in
    e.to c.vertex.result c.out_edge.result.now c.vertex.ensures c.out_edge.ensures

pub extend-requires-clause-wcet : goal.extend-requires-clause-wcet
extend-requires-clause-wcet g c κs within =
    let laws = (g.met.L.Label g.world.𝓛 g.world.𝓜 g.world.𝓡 ((λ s x. x), (λ x. x), (λ x. x), λ x. x)).laws in
    let e = extending g.L.Label.algebra laws _ _ c.self.invariant.0 c.self.view_is c.args.id c.args.edge c.requires c.node-node.result.now c.node-node.ensures in
    subst (λ x. IsTime x.wcet) (sym c.vertex-2.ensures) (e.wcet c.vertex.result c.out_edge.result.now c.vertex.ensures c.out_edge.ensures)

pub returns : goal.returns
returns g c =
    let a = g.L.Label.algebra in
    let laws = (g.met.L.Label g.world.𝓛 g.world.𝓜 g.world.𝓡 ((λ s x. x), (λ x. x), (λ x. x), λ x. x)).laws in
    let v : View _ = record { graph = c.self.inside.graph; bound = c.self.inside.bound; budget = c.self.inside.budget; nodes = c.self.inside.arena.nodes; log = c.self.inside.log.items } in
    let h : Held _ = c.node-node.result.now in
    let at = (extending a laws v _ c.self.invariant.0 c.self.view_is c.args.id c.args.edge c.requires h c.node-node.ensures).at in
    let e : c.out_edge.result.now ≡ edge_of v.graph (a.vertex h.node.label) c.args.edge = c.out_edge.ensures ∙ ap (λ x. edge_of v.graph x c.args.edge) c.vertex.ensures in
    let l_is : c.in_ok-label.label ≡ extended a (setting_of v) h.node.label c.args.edge =
    c.in_ok-label.ensures
    ∙ (ap (λ w. a.extend h.node.label c.out_edge.result.now.sep c.out_edge.result.now.to w) (ap (λ x. x.wcet) c.vertex-2.ensures)
    ∙ ap (λ x. a.extend h.node.label x.sep x.to (vertex_of v.graph x.to).wcet) e) in
    IfOk-weaker c.new.result (λ twin. twin ≡ c.in_ok-label.label) (λ twin. ComesWith a c.args.self.now (Offer c.args.id c.args.edge) (Some twin))
    (λ twin p. subst (λ (x : View _). ComesWith a x (Offer c.args.id c.args.edge) (Some twin)) c.self.view_is (h.node, at, ap (λ l. Some l) (p ∙ l_is))) c.new.ensures
