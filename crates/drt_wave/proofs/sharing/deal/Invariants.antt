-- So many hands are given out, and the owner's seat has the other parts.
use Rattle.std.proofs.Common.{◌≡◌, ◌+◌, ◌≤◌, None, length, vec_capacity}
use Rattle.std.specs.Prelude.{IfSome}
use Rattle.drt_lock.specs.Seats.{Rests}
use Rattle.drt_pool.specs.Turns.{EachPlace}
use Rattle.drt_wave.specs.Seats.{HasRoomForLanes}
use Rattle.drt_wave.proofs.sharing.deal.Given as goal

abbrev pub invariant-hands : goal.invariant-hands
invariant-hands l = record {
  name : l.owner.table_id ≡ l.lock.name;
  owner : (l.owner.me.0.parts + l._hand ≡ 1024) × Rests l.lock.fixed l.owner.me.0.parts 0 l.owner.me;
  count : (length l.hands.items ≡ l._hand) × (l.count ≤ vec_capacity l.hands);
  each : EachPlace (λ place hand. (hand.lock_seat.table_id ≡ l.lock.name) × Rests l.lock.fixed 1 0 hand.lock_seat.me × (hand.held ≡ None)
      × IfSome hand.room (λ room. HasRoomForLanes l.table room)) l.hands.items;
}
