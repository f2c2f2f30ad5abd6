-- The releases so far are taken in.
use Rattle.std.proofs.Common.{◌≡◌, ◌-◌, length}
use Rattle.drt_check_values.specs.Sweeps.{IsTaken}
use Rattle.drt_check_values.proofs.sweeping.take_in.Given as goal

abbrev pub invariant-rises : goal.invariant-rises
invariant-rises l = record {
  taken : IsTaken l.rises l.taken l.time l.reached;
  count : length l.reached ≡ length l.initial.reached;
}

abbrev pub decreases-rises : goal.decreases-rises
decreases-rises l = length l.rises - l.taken
