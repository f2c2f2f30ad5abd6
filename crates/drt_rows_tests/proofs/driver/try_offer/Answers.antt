use Rattle.std.proofs.Common.{◌≡◌, rules, sym, ap, subst, ◌∙◌}
use Rattle.std.specs.Prelude.{IfSome}
use Rattle.drt_demand.specs.Demand.{demand_algebra}
use Rattle.drt_table.specs.Machine.{Setting, extended}
use Rattle.drt_table.specs.View.{setting_of}
use Rattle.drt_rows_tests.proofs.Conditions.{comes_extended}
use Rattle.drt_rows_tests.proofs.driver.try_offer.Goals as goal

pub apply-requires-clause-comes : goal.apply-requires-clause-comes
apply-requires-clause-comes c κs =
    let read : c.label.result.now ≡ c.node.result.now.node.label = c.label.ensures in
    let more = subst (λ o. IfSome o (λ x. (t : Setting) → t.graph ≡ c.args.graph.now → x ≡ extended demand_algebra t c.label.result.now c.args.edge)) c.in-Some.is c.in_ok-extended.ensures in
    comes_extended c.args.table.now c.args.node c.args.edge c.node.result.now c.label.result.now c.in_ok-twin-in-Some.twin c.node.ensures read
    (c.in_ok-twin-in-Some.ensures ∙ more (setting_of c.args.table.now) (sym c.requires))
