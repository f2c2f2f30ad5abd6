-- The entries so far are in range.
use Rattle.std.proofs.Common.{All}
use Rattle.drt_claims.specs.Ranges.{IsInRangeEntry}
use Rattle.drt_check_tests.proofs.front_tests.front.Given as goal

abbrev pub invariant-entries : goal.invariant-entries
invariant-entries l = All IsInRangeEntry l.front.items
