use Rattle.std.proofs.Common.{◌≡◌, ◌≤◌}
use Rattle.drt_rows_tests.proofs.columns_tests.labels.Given as goal

-- there are two vertices, and a label for each number so far
abbrev pub invariant-loop-number : goal.invariant-loop-number
invariant-loop-number l = (l.columns.vertices ≡ 2) × (l.columns.room ≡ 130) × (l.columns.count ≡ l.number) × (l.number ≤ 130)
