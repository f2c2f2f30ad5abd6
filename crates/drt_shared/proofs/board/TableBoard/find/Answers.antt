use Rattle.std.proofs.Common.{subst, sym, ◌∙◌}
use Rattle.std.specs.Prelude.{IsTrue}
use Rattle.drt_table.specs.View.{setting_of}
use Rattle.drt_table.proofs.Tables.{labels_of}
use Rattle.drt_shared.specs.Passes.{AreHeld}
use Rattle.drt_shared.proofs.Boards.{node_within}
use Rattle.drt_shared.proofs.board.TableBoard.find.Goals as goal

pub node-node-requires-after_bounds : goal.node-node-requires-after_bounds
node-node-requires-after_bounds g c κs within =
    node_within c.self.inside.table c.in-Some.id c.args.worker (sym c.held_by.ensures ∙ c.in-Some.is)

pub has_label-requires-after_bounds : goal.has_label-requires-after_bounds
has_label-requires-after_bounds g c κs within =
    let held = subst (λ v. AreHeld g.L.Label.algebra (setting_of v) c.args.holding.now) (sym c.self.view_is) c.requires in
    let at = labels_of g.L.Label.algebra (g.met.L.Label g.world.𝓛 g.world.𝓜 g.world.𝓡 ((λ s x. x), (λ x. x), (λ x. x), λ x. x)).laws c.self.inside.table
    c.self.invariant.0 c.in-Some.id c.node-node.result.now c.node-node.ensures in (
      c.self.inside.table.bound,
      subst (λ l. IsTrue (g.L.Label.algebra.is_of l c.self.inside.table.bound)) (sym c.label.ensures) at,
      λ h e. (held h e).label.of_bound,
    )
