use Rattle.std.proofs.Common.{sym, ◌∙◌}
use Rattle.drt_rows_tests.proofs.Conditions.{can_take}
use Rattle.drt_rows_tests.proofs.driver.may_take.Goals as goal

pub returns-in-None : goal.returns-in-None
returns-in-None c _ = can_take c.args.table.now c.args.worker (sym c.held_by.ensures ∙ c.in-None.is)
