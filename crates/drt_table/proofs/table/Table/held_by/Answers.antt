use Rattle.std.proofs.Common.{sym, ap, ◌∙◌}
use Rattle.drt_table.specs.Node.{Held, is_held_by}
use Rattle.drt_worklist.specs.Places.{first}
use Rattle.drt_table.specs.View.{View, IsTable, state_of}
use Rattle.drt_worklist.proofs.Views.{first-map}
use Rattle.drt_table.proofs.table.Table.held_by.Goals as goal

pub returns : goal.returns
returns g c =
    let a = g.L.Label.algebra in
    let laws = (g.met.L.Label g.world.𝓛 g.world.𝓜 g.world.𝓡 ((λ s x. x), (λ x. x), (λ x. x), λ x. x)).laws in
    let v : View _ = record { graph = c.self.inside.graph; bound = c.self.inside.bound; budget = c.self.inside.budget; nodes = c.self.inside.arena.nodes; log = c.self.inside.log.items } in
    let is : IsTable a v = c.self.invariant.0 in
    c.held_by.ensures ∙ (sym (first-map (is_held_by c.args.worker) (λ (h : Held _). h.node) v.nodes) ∙ ap (λ (x : View _). first (is_held_by c.args.worker) (state_of x).nodes) c.self.view_is)
