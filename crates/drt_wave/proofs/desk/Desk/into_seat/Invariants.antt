-- The table is the same.
use Rattle.std.proofs.Common.{◌≡◌}
use Rattle.drt_wave.proofs.desk.Desk.into_seat.Given as goal

abbrev pub invariant-waves : goal.invariant-waves
invariant-waves l = l.desk ≡ l.fn.self
