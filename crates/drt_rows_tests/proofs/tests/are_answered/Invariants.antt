-- The graph stays that of the table.
use Rattle.std.proofs.Common.{◌≡◌}
use Rattle.drt_rows_tests.proofs.tests.are_answered.Given as goal

abbrev pub invariant-calls : goal.invariant-calls
invariant-calls l = l.graph ≡ l.table.graph
