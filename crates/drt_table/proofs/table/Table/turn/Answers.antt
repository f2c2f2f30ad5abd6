use Rattle.std.proofs.Common.{◌≡◌, Some, sym, ap, ◌∙◌}
use Rattle.drt_table.specs.Earliest.{earliest}
use Rattle.drt_table.specs.Held.{held_offset}
use Rattle.drt_table.specs.Node.{Held, is_taken}
use Rattle.drt_table.specs.View.{View}
use Rattle.drt_table.proofs.Turning.{may_take, turn_take}
use Rattle.drt_table.proofs.table.Table.turn.Goals as goal

pub take-requires-after_bounds : goal.take-requires-after_bounds
take-requires-after_bounds g c κs within =
    let laws = (g.met.L.Label g.world.𝓛 g.world.𝓜 g.world.𝓡 ((λ s x. x), (λ x. x), (λ x. x), λ x. x)).laws in
    may_take g.L.Label.algebra laws _ _ c.self.invariant.0 c.self.view_is _ c.holder.ensures
    c.args.worker c.in-None.is

pub returns-in-None-clause-turn : goal.returns-in-None-clause-turn
returns-in-None-clause-turn g c =
    let laws = (g.met.L.Label g.world.𝓛 g.world.𝓜 g.world.𝓡 ((λ s x. x), (λ x. x), (λ x. x), λ x. x)).laws in
    turn_take g.L.Label.algebra laws _ _ c.self.invariant.0 c.self.view_is _ c.holder.ensures
    c.args.worker c.take.new.self c.take.result c.in-None.is c.take.ensures

pub go_on-requires-after_bounds : goal.go_on-requires-after_bounds
go_on-requires-after_bounds g c κs within =
    ap (λ (x : View _). earliest (λ (h : Held _). is_taken h.node) (held_offset g.L.Label.algebra) x.nodes) (sym c.self.view_is) ∙ (sym c.holder.ensures ∙ c.in-Some.is)

pub returns-in-Some-clause-turn : goal.returns-in-Some-clause-turn
returns-in-Some-clause-turn g c = c.go_on.ensures.turn c.args.worker
