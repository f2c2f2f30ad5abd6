-- The fronts so far have entries in range.
use Rattle.std.proofs.Common.{All}
use Rattle.drt_claims.specs.Ranges.{IsInRangeEntry}
use Rattle.drt_check_tests.proofs.front_tests.fronts.Given as goal

abbrev pub invariant-tasks : goal.invariant-tasks
invariant-tasks l = All (All IsInRangeEntry) l.fronts.items
