-- The count is that of the walks so far.
use Rattle.std.proofs.Common.{◌≡◌, ◌*◌, ◌≤◌, length, take}
use Rattle.std.specs.List.{sum_by}
use Rattle.drt_check_values.proofs.rises.release_count.Given as goal

abbrev pub invariant-walks : goal.invariant-walks
invariant-walks l = record {
  sum : l.count ≡ sum_by length (take l.i l.walks);
  small : l.count ≤ l.i * 4294967295;
}
