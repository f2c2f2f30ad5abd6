-- Each answer stands on what holds of the next node where a worker takes it (TakesNext of Next.antt).
use Rattle.std.proofs.Common.{◌≡◌, ◌<◌, ◌+◌, ◌++◌, ◌∷◌, [], ℕ, Some, length, refl, sym, ap, ◌∙◌, subst, arith}
use Rattle.std.specs.Prelude.{slice_get, slice_set}
use Rattle.std.specs.BinaryHeap.{heap_items}
use Rattle.std.proofs.lemmas.List.{length-set, length_push}
use Rattle.drt_table.specs.Arena.{Stock, HasNodes, AreArranged}
use Rattle.drt_table.specs.Held.{take_by, held_offset}
use Rattle.drt_table.specs.Node.{Held, is_node_pending}
use Rattle.drt_worklist.specs.Places.{changed}
use Rattle.drt_table.specs.Earliest.{earliest}
use Rattle.drt_table.specs.Waiting.{Ticket, AreWaiting, IsFresh}
use Rattle.drt_table.proofs.Arranged.{take_held, next_waits, taken_waiting}
use Rattle.drt_table.proofs.Linking.{changed_linked}
use Rattle.drt_table.proofs.Tickets.{first_is_next}
use Rattle.drt_table.proofs.Next.{next_within, next_pending, takes_next}
use Rattle.drt_table.proofs.Columns.{change_samples}
use Rattle.drt_table.proofs.arena.Arena.take_by.Goals as goal

pub returns : goal.returns
returns g c =
    let s = takes_next g.L.Label.algebra _ _ c.self.view_is c.args.id c.requires c.index_mut.result.now c.index_mut.ensures.value c.args.worker c.take_by.new.self c.take_by.ensures in
    let v : Stock _ = record { nodes = c.self.inside.nodes.items; vertices = length c.self.inside.heads.items; room = c.self.inside.room } in
    let new : Stock _ = record v { nodes = slice_set v.nodes c.args.id c.take_by.new.self } in
    subst (λ (x : Stock _). HasNodes x new (changed c.args.id (take_by c.args.worker) x.nodes)) c.self.view_is
    (record { nodes_are = s.nodes_are; vertices = refl; room = refl })

pub index_mut-requires : goal.index_mut-requires
index_mut-requires g c =
    let lt : c.args.id < length c.self.inside.nodes.items = next_within g.L.Label.algebra _ _ c.self.view_is c.args.id c.requires in
    omega (arith, lt, c.self.inside.nodes.ok.0)

pub take_by-requires-after_bounds : goal.take_by-requires-after_bounds
take_by-requires-after_bounds g c κs within =
    next_pending g.L.Label.algebra _ _ c.self.view_is c.args.id c.requires c.index_mut.result.now c.index_mut.ensures.value

pub pop_ticket-requires-clause-some : goal.pop_ticket-requires-clause-some
pop_ticket-requires-clause-some g c =
    let s = takes_next g.L.Label.algebra _ _ c.self.view_is c.args.id c.requires c.index_mut.result.now c.index_mut.ensures.value c.args.worker c.take_by.new.self c.take_by.ensures in
    let tickets = heap_items c.self.inside.queue in
    let waits : 0 < length tickets =
    next_waits g.L.Label.algebra c.self.inside.nodes.items _ _ tickets _ c.self.invariant.0 c.args.id c.args.worker s.is_next in
    omega (arith, waits, c.self.inside.queue.data.ok.0)

pub refresh-requires-clause-waiting : goal.refresh-requires-clause-waiting
refresh-requires-clause-waiting g c κs within =
    let s = takes_next g.L.Label.algebra _ _ c.self.view_is c.args.id c.requires c.index_mut.result.now c.index_mut.ensures.value c.args.worker c.take_by.new.self c.take_by.ensures in
    let a = g.L.Label.algebra in
    let nodes = c.self.inside.nodes.items in
    let old = c.self.invariant.0 in
    let tickets = heap_items c.self.inside.queue in
    let popped = c.pop_ticket.ensures.first in
    let t : Ticket = popped.0 in
    let at_t : slice_get tickets 0 ≡ Some t = popped.1 in
    let first : Some t.0.1 ≡ earliest (λ (h : Held _). is_node_pending h.node) (held_offset a) nodes =
    first_is_next a nodes tickets old.waiting old.fresh t at_t popped.2 in
    subst (λ xs. AreWaiting a xs (heap_items c.pop_ticket.new.queue) (length xs)) (sym (c.as_slice.ensures.value ∙ s.nodes_are))
    (taken_waiting a nodes _ _ tickets _ old c.args.id c.args.worker s.is_next (heap_items c.pop_ticket.new.queue) t at_t first popped.3)

pub invariant_of-self : goal.invariant_of-self
invariant_of-self g c =
    let s = takes_next g.L.Label.algebra _ _ c.self.view_is c.args.id c.requires c.index_mut.result.now c.index_mut.ensures.value c.args.worker c.take_by.new.self c.take_by.ensures in
    let old = c.self.invariant in
    let nodes = c.self.inside.nodes.items in
    let a = g.L.Label.algebra in
    let w : ℕ = c.args.worker in
    let id : ℕ = c.args.id in
    let taken = c.self.inside.taken.items in
    let links = c.self.inside.links.items in
    let heads = c.self.inside.heads.items in
    let all : AreArranged a (changed id (take_by w) nodes) links heads (heap_items c.refresh.new.queue) (taken ++ id ∷ []) = record {
      linked = changed_linked a (take_by w) (λ h. (refl, refl)) id nodes links heads old.0.linked;
      waiting = subst (λ xs. AreWaiting a xs (heap_items c.refresh.new.queue) (length xs)) (c.as_slice.ensures.value ∙ s.nodes_are) c.refresh.ensures.waiting;
      fresh = subst (λ xs. IsFresh xs (heap_items c.refresh.new.queue)) (c.as_slice.ensures.value ∙ s.nodes_are) c.refresh.ensures.fresh;
      order = c.refresh.ensures.order;
      held = take_held nodes taken id w s.within old.0.held;
    } in
    let count : length (slice_set nodes c.args.id c.take_by.new.self) ≡ length nodes = length-set nodes c.args.id c.take_by.new.self in
    let more : length c.push_within.new.items.items ≡ length taken + 1 = ap length c.push_within.ensures.items ∙ length_push taken id in (
      subst (λ xs. AreArranged a xs links heads (heap_items c.refresh.new.queue) c.push_within.new.items.items) (sym s.nodes_are)
          (subst (λ ks. AreArranged a (changed id (take_by w) nodes) links heads (heap_items c.refresh.new.queue) ks) (sym c.push_within.ensures.items) all),
      omega (arith, count, old.1),
      omega (arith, count, more, c.refresh.ensures.len, c.pop_ticket.ensures.len, old.2, c.push_within.new.items.ok.0, c.self.inside.taken.ok.0),
      old.3,
      old.4,
      omega (arith, c.refresh.ensures.capacity, c.pop_ticket.ensures.capacity, old.5),
      omega (arith, c.push_within.ensures.capacity, old.6),
      change_samples g.L.Label.algebra (length c.self.inside.heads.items) c.self.inside.room c.self.inside.columns (take_by c.args.worker) c.args.id nodes _
          s.nodes_are (λ h. refl) old.7,
    )
