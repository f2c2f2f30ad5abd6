use Rattle.std.proofs.Common.{◌≡◌, ◌+◌, refl, sym, ap, ◌∙◌, subst, arith}
use Rattle.std.specs.Prelude.{unwrap_or}
use Rattle.std.proofs.lemmas.Option.{slice_get_within}
use Rattle.drt_table.specs.Node.{Held, is_node_pending, is_taken}
use Rattle.drt_table.specs.Held.{held_offset}
use Rattle.drt_table.specs.View.{View, CanApply, IsTableStep}
use Rattle.drt_table.specs.declared.step.TableStep.TheVariants.{Take}
use Rattle.drt_table.specs.declared.step.TableReply.TheVariants.{Taken}
use Rattle.drt_table.proofs.Earliest.{Earliest, found_earliest}
use Rattle.drt_table.proofs.Tables.{take_same, take_taken, table_more}
use Rattle.drt_table.proofs.Next.{found_for_take}
use Rattle.drt_table.proofs.table.Table.take.Goals as goal

pub is_soon-soon-requires-clause-next : goal.is_soon-soon-requires-clause-next
is_soon-soon-requires-clause-next g c κs within k e =
    let nodes = c.self.inside.arena.nodes in
    let f : Earliest (λ (h : Held _). is_node_pending h.node) (held_offset g.L.Label.algebra) nodes k =
    found_earliest (λ (h : Held _). is_node_pending h.node) (held_offset g.L.Label.algebra) nodes k (sym c.next-next.ensures ∙ e) in
    slice_get_within nodes k f.item f.at

pub is_soon-soon-requires-clause-holder : goal.is_soon-soon-requires-clause-holder
is_soon-soon-requires-clause-holder g c κs within k e =
    let nodes = c.self.inside.arena.nodes in
    let f : Earliest (λ (h : Held _). is_taken h.node) (held_offset g.L.Label.algebra) nodes k =
    found_earliest (λ (h : Held _). is_taken h.node) (held_offset g.L.Label.algebra) nodes k (sym c.holder-holder.ensures ∙ e) in
    slice_get_within nodes k f.item f.at

pub returns-in-None : goal.returns-in-None
returns-in-None g c =
    let a = g.L.Label.algebra in
    let v : View _ = record { graph = c.self.inside.graph; bound = c.self.inside.bound; budget = c.self.inside.budget; nodes = c.self.inside.arena.nodes; log = c.self.inside.log.items } in
    let f = found_for_take a v c.self.inside.shortest c.len.result _ _ _ _ _ (ap (λ o. unwrap_or o (v.bound + 1)) c.self.invariant.4)
    (sym (c.len.ensures ∙ c.self.inside.log.ok.0)) c.next-next.ensures c.holder-holder.ensures c.reaches-full.ensures c.is_soon-soon.ensures c.choose-reply.ensures in
    subst (λ (x : View _). IsTableStep a x x c.args.worker Take c.choose-reply.result) c.self.view_is
    (take_same a v c.args.worker _ _ _ _ _ f (sym c.taken_by.ensures ∙ c.in-None.is))

pub returns-in-Some : goal.returns-in-Some
returns-in-Some g c =
    let a = g.L.Label.algebra in
    let v : View _ = record { graph = c.self.inside.graph; bound = c.self.inside.bound; budget = c.self.inside.budget; nodes = c.self.inside.arena.nodes; log = c.self.inside.log.items } in
    let f = found_for_take a v c.self.inside.shortest c.len.result _ _ _ _ _ (ap (λ o. unwrap_or o (v.bound + 1)) c.self.invariant.4)
    (sym (c.len.ensures ∙ c.self.inside.log.ok.0)) c.next-next.ensures c.holder-holder.ensures c.reaches-full.ensures c.is_soon-soon.ensures c.choose-reply.ensures in
    let new : View _ = record v { nodes = c.take_by.new.self.nodes; log = c.push_within.new.items.items } in
    let step : IsTableStep a v new c.args.worker Take (Taken c.in-Some.id) =
    take_taken a v new c.args.worker c.in-Some.id _ _ _ _ _ f (sym c.taken_by.ensures ∙ c.in-Some.is) refl c.take_by.ensures.nodes_are c.push_within.ensures.items in
    subst (λ (x : View _). IsTableStep a x new c.args.worker Take (Taken c.in-Some.id)) c.self.view_is step

pub invariant_of-self : goal.invariant_of-self
invariant_of-self g c =
    let a = g.L.Label.algebra in
    let v : View _ = record { graph = c.self.inside.graph; bound = c.self.inside.bound; budget = c.self.inside.budget; nodes = c.self.inside.arena.nodes; log = c.self.inside.log.items } in
    let f = found_for_take a v c.self.inside.shortest c.len.result _ _ _ _ _ (ap (λ o. unwrap_or o (v.bound + 1)) c.self.invariant.4)
    (sym (c.len.ensures ∙ c.self.inside.log.ok.0)) c.next-next.ensures c.holder-holder.ensures c.reaches-full.ensures c.is_soon-soon.ensures c.choose-reply.ensures in
    let new : View _ = record v { nodes = c.take_by.new.self.nodes; log = c.push_within.new.items.items } in
    let step : IsTableStep a v new c.args.worker Take (Taken c.in-Some.id) =
    take_taken a v new c.args.worker c.in-Some.id _ _ _ _ _ f (sym c.taken_by.ensures ∙ c.in-Some.is) refl c.take_by.ensures.nodes_are c.push_within.ensures.items in
    let can : CanApply a v c.args.worker Take = subst (λ (x : View _). CanApply a x c.args.worker Take) (sym c.self.view_is) c.requires in (
      table_more a v new c.args.worker Take (Taken c.in-Some.id) c.self.invariant.0 can step c.push_within.ensures.items,
      c.take_by.ensures.vertices ∙ c.self.invariant.1,
      omega (arith, c.self.invariant.2, c.take_by.ensures.room),
      omega (arith, c.self.invariant.3, c.push_within.ensures.capacity),
      c.self.invariant.4,
    )
