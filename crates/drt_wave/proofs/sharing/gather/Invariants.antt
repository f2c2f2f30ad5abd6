-- The hands that are left have a part each, and the owner's seat has the others.
use Rattle.std.proofs.Common.{◌≡◌, ◌+◌, ◌<◌, length}
use Rattle.drt_lock.specs.Seats.{Rests}
use Rattle.drt_pool.specs.Turns.{EachPlace}
use Rattle.drt_wave.proofs.sharing.gather.Given as goal

abbrev pub invariant-hands : goal.invariant-hands
invariant-hands l = record {
  name : l.owner.table_id ≡ l.lock.name;
  owner : (0 < l.owner.me.0.parts) × (l.owner.me.0.parts + length l.hands.items ≡ 1024) × Rests l.lock.fixed l.owner.me.0.parts 0 l.owner.me;
  each : EachPlace (λ place hand. (hand.lock_seat.table_id ≡ l.lock.name) × Rests l.lock.fixed 1 0 hand.lock_seat.me) l.hands.items;
}

abbrev pub decreases-hands : goal.decreases-hands
decreases-hands l = length l.hands.items
