use Rattle.std.proofs.Common.{◌≡◌, length, refl, ap, ◌∙◌, arith, eq-eqb}
use Rattle.drt_sp_tests.proofs.request_tests.is_better.Goals as goal

pub dominates-requires : goal.dominates-requires
dominates-requires c =
    let e : c.bound.result ≡ length c.args.own.now.values = c.bound.ensures.value ∙ ap length c.steps.ensures in
    let f : c.bound-2.result ≡ length c.args.other.now.values = c.bound-2.ensures.value ∙ ap length c.steps-2.ensures in
    let h : length c.args.other.now.values ≡ length c.args.own.now.values = omega arith in
    (length c.args.own.now.values, eq-eqb _ _ refl, eq-eqb _ _ h)
