use Rattle.std.proofs.Common.{sym, ap, ◌∙◌, subst}
use Rattle.std.specs.BinaryHeap.{heap_items}
use Rattle.drt_table.specs.Arena.{Stock}
use Rattle.drt_table.specs.Held.{held_offset}
use Rattle.drt_table.specs.Node.{Held, is_node_pending}
use Rattle.drt_table.specs.Earliest.{earliest}
use Rattle.drt_table.specs.Waiting.{IsFresh}
use Rattle.drt_table.proofs.arena.Arena.next.Goals as goal

pub returns : goal.returns
returns g c =
    c.first_waiting.ensures
    ∙ (ap (λ xs. earliest (λ (h : Held _). is_node_pending h.node) (held_offset g.L.Label.algebra) xs) c.as_slice.ensures.value
    ∙ ap (λ (x : Stock _). earliest (λ (h : Held _). is_node_pending h.node) (held_offset g.L.Label.algebra) x.nodes) c.self.view_is)

pub first_waiting-requires-clause-fresh : goal.first_waiting-requires-clause-fresh
first_waiting-requires-clause-fresh g c κs within = subst (λ xs. IsFresh xs (heap_items c.self.inside.queue)) (sym c.as_slice.ensures.value) c.self.invariant.0.fresh
