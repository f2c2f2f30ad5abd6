use Rattle.std.proofs.Common.{◌≡◌, length, ap, ◌∙◌, arith}
use Rattle.drt_steps.specs.Values.{value_at}
use Rattle.drt_request.specs.Request.{Request}
use Rattle.drt_request.proofs.Totals.{below_label}
use Rattle.drt_request.proofs.label.RequestLabelLabel.dominates.Goals as goal

pub returns-then-self-other : goal.returns-then-self-other
returns-then-self-other c =
    let x : c.self.inside.total ≡ value_at c.args.self.now.values (length c.args.self.now.values) = c.self.invariant.1 ∙ ap (λ (r : Request). value_at r.values (length r.values)) c.self.view_is in
    let y : c.other.inside.total ≡ value_at c.args.other.now.values (length c.args.other.now.values) = c.other.invariant.1
    ∙ ap (λ (r : Request). value_at r.values (length r.values)) c.other.view_is in
    below_label c.args.self.now c.args.other.now (omega (arith, x, y, c.if-self-other.true))
