use Rattle.std.proofs.Common.{ap, ◌∙◌}
use Rattle.drt_table.specs.Arena.{Stock}
use Rattle.drt_table.specs.Held.{held_offset}
use Rattle.drt_table.specs.Node.{Held, is_taken}
use Rattle.drt_table.specs.Earliest.{earliest}
use Rattle.drt_table.proofs.arena.Arena.holder.Goals as goal

pub returns : goal.returns
returns g c =
    c.first_taken.ensures
    ∙ (ap (λ xs. earliest (λ (h : Held _). is_taken h.node) (held_offset g.L.Label.algebra) xs) c.as_slice.ensures.value
    ∙ ap (λ (x : Stock _). earliest (λ (h : Held _). is_taken h.node) (held_offset g.L.Label.algebra) x.nodes) c.self.view_is)
