use Rattle.std.proofs.Common.{◌≡◌, ℕ, ◌+◌, ◌<◌, List, length, sym, ◌∙◌, subst, ap, arith}
use Rattle.std.proofs.lemmas.Bool.Decides.{nat_tests}
use Rattle.drt_steps.specs.Values.{value_at}
use Rattle.drt_request.specs.Request.{AreValuesWithinLimits, Request}
use Rattle.drt_request.proofs.Limits.{extended_limits}
use Rattle.drt_request.proofs.label.RequestLabelLabel.extend.Goals as goal

pub invariant_of-result : goal.invariant_of-result
invariant_of-result c =
    let xs : List ℕ = c.deref.result.now in
    let o : c.self.inside.offset ≡ c.args.self.now.offset = ap (λ (r : Request). r.offset) c.self.view_is in
    let n : length xs ≡ length c.args.self.now.values = ap length c.deref.ensures ∙ ap (λ (r : Request). length r.values) c.self.view_is in
    let within : c.args.self.now.offset < length c.args.self.now.values = grind (arith, nat_tests, c.requires.extendable) in
    let limits : AreValuesWithinLimits c.self.inside.offset xs = subst (λ (ys : List ℕ). AreValuesWithinLimits c.self.inside.offset ys) (sym c.deref.ensures) c.self.invariant.0 in
    let kept : AreValuesWithinLimits (c.self.inside.offset + c.args.sep) _ = subst (λ (ys : List ℕ). AreValuesWithinLimits (c.self.inside.offset + c.args.sep) ys)
    (sym (c.in_ok-new.ensures.ok ∙ c.in_ok-steps.ensures))
    (extended_limits c.self.inside.offset c.args.sep c.args.wcet xs limits (omega arith) c.requires.sep.0 c.requires.sep.1 c.requires.wcet.1) in
    (kept, subst (λ (ys : List ℕ). c.at.result ≡ value_at ys (length ys)) (sym c.in_ok-new.ensures.ok) (c.at.ensures.value ∙ ap (λ n. value_at c.in_ok-steps.steps n) c.bound.ensures.value))
