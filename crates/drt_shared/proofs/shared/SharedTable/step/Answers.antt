use Rattle.std.proofs.Common.{ap, subst, sym, ◌∙◌, rules}
use Rattle.drt_table.specs.View.{setting_of}
use Rattle.drt_shared.specs.TableBoard.{CanMove, CanCount}
use Rattle.drt_shared.specs.Passes.{AreHeld}
use Rattle.drt_shared.specs.Replies.{ForReply}
use Rattle.drt_shared.proofs.Holds.{held_after}
use Rattle.drt_shared.proofs.shared.SharedTable.step.Goals as goal

pub act-reply-requires-clause-can : goal.act-reply-requires-clause-can
act-reply-requires-clause-can g c κs within = subst (λ p. CanMove g.L.Label.algebra c.args.self.now.setting p.holding c.args.wanted) (sym c.pass.view_is) c.requires.can

pub hold-requires-after_bounds : goal.hold-requires-after_bounds
hold-requires-after_bounds g c κs within =
    let y = c.enter.ensures.machine in
    let n = c.act-reply.ensures.machine y.0 y.1 in
    (setting_of y.0, n.2.next)

pub returns-clause-pass : goal.returns-clause-pass
returns-clause-pass g c =
    let y = c.enter.ensures.machine in
    let n = c.act-reply.ensures.machine y.0 y.1 in
    let same = y.2 ∙ ap (λ s. s.setting) c.self.view_is in
    let was = subst (λ p. AreHeld g.L.Label.algebra c.args.self.now.setting p.holding) (sym c.pass.view_is) c.requires.pass.held in
    let comes = subst (λ t. AreHeld g.L.Label.algebra t c.act-reply.result.1) same n.2.held in
    let more = subst (λ t. ForReply (λ r. CanCount g.L.Label.algebra t r c.pass.inside.holding) c.act-reply.result.0) same n.2.next in
    record {
      name = search rules;
      setting = search rules;
      held = subst (λ h. AreHeld g.L.Label.algebra c.args.self.now.setting h) (sym c.hold.ensures)
          (held_after g.L.Label.algebra c.args.self.now.setting c.act-reply.result.0 c.pass.inside.holding c.act-reply.result.1 was comes more);
    }
