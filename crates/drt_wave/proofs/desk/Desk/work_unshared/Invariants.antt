-- The table is the same.
use Rattle.std.proofs.Common.{◌≡◌}
use Rattle.drt_wave.proofs.desk.Desk.work_unshared.Given as goal

abbrev pub invariant-waves : goal.invariant-waves
invariant-waves l = l.self ≡ l.initial.self
