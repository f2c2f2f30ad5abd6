use Rattle.std.proofs.Common.{ℕ, ◌≤◌, List, length, ◌≡◌, sym, ◌∙◌, subst, arith}
use Rattle.std.proofs.lemmas.Bool.Decides.{nat_tests}
use Rattle.drt_model.specs.Numbers.{most_time}
use Rattle.drt_request.specs.Request.{AreValuesWithinLimits}
use Rattle.drt_steps.specs.Values.{value_at}
use Rattle.drt_request.proofs.Limits.{opening_limits}
use Rattle.drt_request.proofs.Totals.{flat_total}
use Rattle.drt_request.proofs.label.RequestLabelLabel.opening.Goals as goal

pub invariant_of-result : goal.invariant_of-result
invariant_of-result c =
    let few : c.args.bound ≤ most_time = grind (arith, nat_tests, c.requires.bound) in
    let le : c.args.wcet ≤ most_time = c.requires.wcet.1 in
    let from : 1 ≤ c.args.bound = grind (arith, nat_tests, c.requires.bound) in
    subst (λ (xs : List ℕ). AreValuesWithinLimits 0 xs × (c.args.wcet ≡ value_at xs (length xs))) (sym (c.in_ok-new.ensures.ok ∙ c.in_ok-flat.ensures))
    (opening_limits c.args.bound c.args.wcet few le, flat_total c.args.bound c.args.wcet from)
