-- The seat rests, with the parts that it had.
use Rattle.std.proofs.Common.{◌≡◌, ◌<◌}
use Rattle.drt_lock.specs.Seats.{Rests}
use Rattle.drt_workers_tests.proofs.lock_tests.step_often.Given as goal

abbrev pub invariant-loop : goal.invariant-loop
invariant-loop g l = (l.seat.table_id ≡ l.lock.name) × (0 < l.seat.me.0.parts) × (l.seat.me.0.parts ≡ l.fn.seat.me.0.parts) × Rests l.lock.fixed l.seat.me.0.parts l.seat.me.0.count l.seat.me
