use Rattle.std.proofs.Common.{◌≡◌, ◌<◌, List, length, sym, ap, ◌∙◌, subst, arith}
use Rattle.std.specs.Prelude.{IsTrue}
use Rattle.drt_model.specs.Digraph.{vertex_of}
use Rattle.drt_table.specs.Held.{AllOf, count_offer}
use Rattle.drt_table.specs.Links.{AreAlone}
use Rattle.drt_table.specs.Node.{Held}
use Rattle.drt_table.specs.View.{View, IsTableStep}
use Rattle.drt_table.specs.declared.step.TableStep.TheVariants.{Offer}
use Rattle.drt_worklist.proofs.Lists.{length-changed}
use Rattle.drt_table.proofs.Offering.{offering, IsPlaced, with_nodes, offer_step, offer_table}
use Rattle.drt_table.proofs.table.Table.offer.Goals as goal

pub count_offer-requires-after_bounds : goal.count_offer-requires-after_bounds
count_offer-requires-after_bounds g c κs within =
    let laws = (g.met.L.Label g.world.𝓛 g.world.𝓜 g.world.𝓡 ((λ s x. x), (λ x. x), (λ x. x), λ x. x)).laws in
    let o = offering g.L.Label.algebra laws _ _ c.self.invariant.0 c.self.view_is _ _ _ _ c.requires.can c.requires.comes in
    (o.node, o.at, o.offered)

pub place-reply-requires-clause-room : goal.place-reply-requires-clause-room
place-reply-requires-clause-room g c κs within =
    let laws = (g.met.L.Label g.world.𝓛 g.world.𝓜 g.world.𝓡 ((λ s x. x), (λ x. x), (λ x. x), λ x. x)).laws in
    let o = offering g.L.Label.algebra laws _ _ c.self.invariant.0 c.self.view_is _ _ _ _ c.requires.can c.requires.comes in
    let same : length c.count_offer.new.self.nodes ≡ length c.self.inside.arena.nodes = ap length c.count_offer.ensures.nodes_are ∙ length-changed c.args.node count_offer c.self.inside.arena.nodes in
    omega (arith, same, o.few, c.self.invariant.2, c.count_offer.ensures.room, c.self.inside.log.ok.0)

pub place-reply-requires-clause-few : goal.place-reply-requires-clause-few
place-reply-requires-clause-few g c κs within =
    let laws = (g.met.L.Label g.world.𝓛 g.world.𝓜 g.world.𝓡 ((λ s x. x), (λ x. x), (λ x. x), λ x. x)).laws in
    let o = offering g.L.Label.algebra laws _ _ c.self.invariant.0 c.self.view_is _ _ _ _ c.requires.can c.requires.comes in
    let same : length c.count_offer.new.self.nodes ≡ length c.self.inside.arena.nodes = ap length c.count_offer.ensures.nodes_are ∙ length-changed c.args.node count_offer c.self.inside.arena.nodes in
    omega (arith, same, o.small)

pub place-reply-requires-clause-vertex : goal.place-reply-requires-clause-vertex
place-reply-requires-clause-vertex g c κs within =
    let laws = (g.met.L.Label g.world.𝓛 g.world.𝓜 g.world.𝓡 ((λ s x. x), (λ x. x), (λ x. x), λ x. x)).laws in
    let o = offering g.L.Label.algebra laws _ _ c.self.invariant.0 c.self.view_is _ _ _ _ c.requires.can c.requires.comes in
    omega (arith, o.vertex, c.self.invariant.1, c.count_offer.ensures.vertices)

pub place-reply-requires-clause-of : goal.place-reply-requires-clause-of
place-reply-requires-clause-of g c κs within =
    let laws = (g.met.L.Label g.world.𝓛 g.world.𝓜 g.world.𝓡 ((λ s x. x), (λ x. x), (λ x. x), λ x. x)).laws in
    let o = offering g.L.Label.algebra laws _ _ c.self.invariant.0 c.self.view_is _ _ _ _ c.requires.can c.requires.comes in
    o.of

pub place-reply-requires-clause-all_of : goal.place-reply-requires-clause-all_of
place-reply-requires-clause-all_of g c κs within =
    let laws = (g.met.L.Label g.world.𝓛 g.world.𝓜 g.world.𝓡 ((λ s x. x), (λ x. x), (λ x. x), λ x. x)).laws in
    let o = offering g.L.Label.algebra laws _ _ c.self.invariant.0 c.self.view_is _ _ _ _ c.requires.can c.requires.comes in
    subst (λ (xs : List (Held _)). AllOf (λ (h : Held _). IsTrue (g.L.Label.algebra.is_of h.node.label c.self.inside.bound)) xs) (sym c.count_offer.ensures.nodes_are) o.all_of

pub place-reply-requires-clause-alone : goal.place-reply-requires-clause-alone
place-reply-requires-clause-alone g c κs within =
    let laws = (g.met.L.Label g.world.𝓛 g.world.𝓜 g.world.𝓡 ((λ s x. x), (λ x. x), (λ x. x), λ x. x)).laws in
    let o = offering g.L.Label.algebra laws _ _ c.self.invariant.0 c.self.view_is _ _ _ _ c.requires.can c.requires.comes in
    subst (λ (xs : List (Held _)). AreAlone g.L.Label.algebra xs) (sym c.count_offer.ensures.nodes_are) o.alone

pub invariant_of-self : goal.invariant_of-self
invariant_of-self g c =
    let laws = (g.met.L.Label g.world.𝓛 g.world.𝓜 g.world.𝓡 ((λ s x. x), (λ x. x), (λ x. x), λ x. x)).laws in
    let o = offering g.L.Label.algebra laws _ _ c.self.invariant.0 c.self.view_is _ _ _ _ c.requires.can c.requires.comes in
    let a = g.L.Label.algebra in
    let graph = c.self.inside.graph in
    let room : length c.self.inside.log.items < c.self.inside.budget = omega (arith, c.self.inside.log.ok.0) in
    let vertex = c.vertex.ensures ∙ ap a.vertex c.twin.view_is in
    let p : IsPlaced a _ c.args.worker c.args.node c.args.edge c.args.twin c.vertex-2.result.now.deadline _ _ _ c.place-reply.result = record {
      room = room;
      deadline_is = ap (λ x. x.deadline) c.vertex-2.ensures ∙ ap (λ x. (vertex_of graph x).deadline) vertex;
      counted_is = c.count_offer.ensures.nodes_are;
      nodes_are = c.place-reply.ensures.nodes.nodes_are;
      reply_is = c.place-reply.ensures.reply;
      log_is = c.push_within.ensures.items;
    } in (
      offer_table a _ c.args.worker c.args.node c.args.edge c.args.twin _ _ _ _ _ o p,
      c.place-reply.ensures.nodes.vertices ∙ (c.count_offer.ensures.vertices ∙ c.self.invariant.1),
      omega (arith, c.self.invariant.2, c.count_offer.ensures.room, c.place-reply.ensures.nodes.room),
      omega (arith, c.self.invariant.3, c.push_within.ensures.capacity),
      c.self.invariant.4,
    )

pub returns : goal.returns
returns g c =
    let laws = (g.met.L.Label g.world.𝓛 g.world.𝓜 g.world.𝓡 ((λ s x. x), (λ x. x), (λ x. x), λ x. x)).laws in
    let o = offering g.L.Label.algebra laws _ _ c.self.invariant.0 c.self.view_is _ _ _ _ c.requires.can c.requires.comes in
    let a = g.L.Label.algebra in
    let graph = c.self.inside.graph in
    let room : length c.self.inside.log.items < c.self.inside.budget = omega (arith, c.self.inside.log.ok.0) in
    let vertex = c.vertex.ensures ∙ ap a.vertex c.twin.view_is in
    let p : IsPlaced a _ c.args.worker c.args.node c.args.edge c.args.twin c.vertex-2.result.now.deadline _ _ _ c.place-reply.result = record {
      room = room;
      deadline_is = ap (λ x. x.deadline) c.vertex-2.ensures ∙ ap (λ x. (vertex_of graph x).deadline) vertex;
      counted_is = c.count_offer.ensures.nodes_are;
      nodes_are = c.place-reply.ensures.nodes.nodes_are;
      reply_is = c.place-reply.ensures.reply;
      log_is = c.push_within.ensures.items;
    } in
    let v : View _ = record { graph = graph; bound = c.self.inside.bound; budget = c.self.inside.budget; nodes = c.self.inside.arena.nodes; log = c.self.inside.log.items } in
    let new : View _ = with_nodes v c.place-reply.new.self.nodes c.push_within.new.items.items in
    subst (λ (x : View _). IsTableStep a x new c.args.worker (Offer c.args.node c.args.edge) c.place-reply.result) c.self.view_is
    (offer_step a _ c.args.worker c.args.node c.args.edge c.args.twin _ _ _ _ _ o p)
