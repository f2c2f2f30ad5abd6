use Rattle.std.proofs.Common.{◌≡◌, sym, ◌∙◌, subst}
use Rattle.std.specs.Prelude.{◌&&◌}
use Rattle.drt_table.specs.Cover.{IsFront}
use Rattle.drt_table.specs.Machine.{is_finished}
use Rattle.drt_table.specs.View.{View, IsTable, setting_of, state_of}
use Rattle.drt_table.proofs.Tables.{facts_of, finished_result}
use Rattle.drt_table.proofs.Finished.{run_front}
use Rattle.drt_table.proofs.table.Table.finished.Goals as goal

pub returns-clause-finished : goal.returns-clause-finished
returns-clause-finished g c =
    let a = g.L.Label.algebra in
    let v : View _ = record { graph = c.self.inside.graph; bound = c.self.inside.bound; budget = c.self.inside.budget; nodes = c.self.inside.arena.nodes; log = c.self.inside.log.items } in
    subst (λ (x : View _). (c.is_none.result && c.is_none-2.result) ≡ is_finished a (setting_of x) (state_of x)) c.self.view_is
    (finished_result a v _ _ _ _ c.next-next.ensures c.holder-holder.ensures c.is_none.ensures c.is_none-2.ensures)

pub returns-clause-front : goal.returns-clause-front
returns-clause-front g c =
    let a = g.L.Label.algebra in
    let laws = (g.met.L.Label g.world.𝓛 g.world.𝓜 g.world.𝓡 ((λ s x. x), (λ x. x), (λ x. x), λ x. x)).laws in
    let v : View _ = record { graph = c.self.inside.graph; bound = c.self.inside.bound; budget = c.self.inside.budget; nodes = c.self.inside.arena.nodes; log = c.self.inside.log.items } in
    let is : IsTable a v = c.self.invariant.0 in
    let r = finished_result a v _ _ _ _ c.next-next.ensures c.holder-holder.ensures c.is_none.ensures c.is_none-2.ensures in
    λ yes. subst (λ (x : View _). IsFront a (setting_of x) (state_of x).nodes) c.self.view_is
    (run_front a laws (setting_of v) is.bound (state_of v) (facts_of a laws v is) (sym r ∙ yes))
