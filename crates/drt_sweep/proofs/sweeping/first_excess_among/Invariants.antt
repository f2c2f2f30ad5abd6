-- The row has the greatest works of the works so far, and no time before the works that are left has too much work.
use Rattle.std.proofs.Common.{◌≤◌, ◌*◌, take}
use Rattle.drt_sweep.proofs.Sweeps.{IsRow, IsClearBefore}
use Rattle.drt_sweep.proofs.sweeping.first_excess_among.Given as goal

abbrev pub invariant-works : goal.invariant-works
invariant-works l = record {
  row : IsRow (take l.i l.works) l.most l.total;
  clear : IsClearBefore l.works l.i;
  small : l.total ≤ l.i * 18446744073709551616;
}
