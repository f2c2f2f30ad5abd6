use Rattle.std.proofs.Common.{◌≡◌, sym, subst}
use Rattle.std.specs.Prelude.{IfSome}
use Rattle.drt_table.specs.View.{setting_of}
use Rattle.drt_shared.specs.TableBoard.{CanHandOut}
use Rattle.drt_shared.specs.Passes.{IsLabel}
use Rattle.drt_shared.proofs.Boards.{handed_spares, handed_label}
use Rattle.drt_shared.proofs.board.TableBoard.hand_out.Goals as goal

pub invariant_of-self : goal.invariant_of-self
invariant_of-self g c =
    let can = subst (λ v. CanHandOut v c.args.node) (sym c.self.view_is) c.requires in
    (c.keep_run.ensures, handed_spares c.self.inside.table c.hand_out-label.new.self _ c.self.invariant.1 can c.hand_out-label.ensures.nodes)

pub returns-clause-label : goal.returns-clause-label
returns-clause-label g c =
    let can = subst (λ v. CanHandOut v c.args.node) (sym c.self.view_is) c.requires in
    let label = subst (λ o. IfSome o (λ h. c.hand_out-label.result ≡ h.node.label)) can.1 c.hand_out-label.ensures.label in
    subst (λ v. IsLabel g.L.Label.algebra (setting_of v) c.hand_out-label.result) c.self.view_is
    (handed_label g.L.Label.algebra (g.met.L.Label g.world.𝓛 g.world.𝓜 g.world.𝓡 ((λ s x. x), (λ x. x), (λ x. x), λ x. x)).laws c.self.inside.table c.self.invariant.0
    c.args.node c.hand_out-label.result can label)

pub hand_out-label-requires-after_bounds : goal.hand_out-label-requires-after_bounds
hand_out-label-requires-after_bounds g c κs within = subst (λ v. CanHandOut v c.args.node) (sym c.self.view_is) c.requires
