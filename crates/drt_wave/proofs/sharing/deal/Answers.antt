use Rattle.std.proofs.Common.{◌≡◌, ℕ, ◌+◌, ◌-◌, ◌<◌, ◌≤◌, None, length, length-append, refl, sym, ap, ◌∙◌, subst, arith}
use Rattle.std.specs.Prelude.{IfSome}
use Rattle.drt_lock.specs.Seats.{Rests}
use Rattle.drt_pool.specs.Turns.{EachPlace}
use Rattle.drt_pool.proofs.Places.{places_push}
use Rattle.drt_wave.specs.Seats.{HasRoomForLanes}
use Rattle.drt_wave.specs.declared.relay.Hand.{Hand}
use Rattle.drt_wave.proofs.sharing.deal.Goals as goal

-- the owner's parts where n hands are given out
whole_first : (parts : ℕ) → parts ≡ 1024 → parts + 0 ≡ 1024
whole_first parts is = omega arith

many_left : (parts n most : ℕ) → parts + n ≡ 1024 → n < most → most ≤ 16 → 1 < parts
many_left parts n most whole lt few = omega arith

one_given : (parts n left : ℕ) → parts + n ≡ 1024 → 1 < parts → left ≡ parts - 1 → left + (n + 1) ≡ 1024
one_given parts n left whole some is = omega arith

room_left : (len n most cap : ℕ) → len ≡ n → n < most → most ≤ cap → len < cap
room_left len n most cap is lt le = omega arith

at_the_end : (n most : ℕ) → n ≤ most → most ≤ n → n ≡ most
at_the_end n most le ge = omega arith

pub hands-init : goal.hands-init
hands-init c =
    let lock = c.args.lock.now in
    let table = c.args.table.now in
    let owner = c.requires.owner.1 in
    record {
      name = c.requires.name;
      owner = (whole_first _ owner.0.1, ((owner.0.0, refl, owner.0.2), owner.1, owner.2));
      count = (ap length c.requires.room.0, c.requires.room.1);
      each = subst (EachPlace (λ (place : ℕ) (hand : Hand). (hand.lock_seat.table_id ≡ lock.name) × Rests lock.fixed 1 0 hand.lock_seat.me × (hand.held ≡ None)
          × IfSome hand.room (λ room. HasRoomForLanes table room))) (sym c.requires.room.0) (λ i d lt. absurd (omega (arith, lt)));
    }

pub split-lock_seat-requires-clause-seat : goal.split-lock_seat-requires-clause-seat
split-lock_seat-requires-clause-seat c =
    let owner = c.hands.invariant.owner in
    (many_left _ _ _ owner.0 c.hands-test.true c.requires.owner.0, ((owner.1.0.0, refl, refl), owner.1.1, owner.1.2))

pub push_reserved-requires : goal.push_reserved-requires
push_reserved-requires c =
    let inv = c.hands.invariant in room_left _ c.hands._hand c.args.count _ (c.hands.hands.ok.0 ∙ inv.count.0) c.hands-test.true inv.count.1

pub hands-preserved : goal.hands-preserved
hands-preserved c =
    let lock = c.args.lock.now in
    let table = c.args.table.now in
    let inv = c.hands.invariant in
    let old = c.hands.hands.items in
    let owner = inv.owner in
    let split = c.split-lock_seat.ensures in
    record {
      name = split.name.0;
      owner = (
        one_given _ _ _ owner.0 (many_left _ _ _ owner.0 c.hands-test.true c.requires.owner.0) split.seat.0.1,
        ((split.seat.0.0, refl, split.seat.0.2 ∙ owner.1.0.2), split.seat.1, split.seat.2),
      );
      count = (
        ap length c.push_reserved.ensures.items ∙ (length-append old _ ∙ ap (λ n. n + 1) inv.count.0),
        subst (λ cap. c.args.count ≤ cap) (sym c.push_reserved.ensures.capacity) inv.count.1,
      );
      each = places_push (λ (hand : Hand). (hand.lock_seat.table_id ≡ lock.name) × Rests lock.fixed 1 0 hand.lock_seat.me × (hand.held ≡ None)
          × IfSome hand.room (λ room. HasRoomForLanes table room)) old _ _ c.push_reserved.ensures.items inv.each (split.name.1, split.new, refl, c.in_ok-room.ensures);
    }

pub returns-clause-name : goal.returns-clause-name
returns-clause-name c = c.hands.invariant.name

pub returns-clause-owner : goal.returns-clause-owner
returns-clause-owner c =
    let end : c.hands._hand ≡ c.args.count = at_the_end c.hands._hand c.args.count c.hands.auto._hand-end c.hands-test.false in
    (subst (λ n. c.hands.owner.me.0.parts + n ≡ 1024) end c.hands.invariant.owner.0, c.hands.invariant.owner.1)

pub returns-clause-count : goal.returns-clause-count
returns-clause-count c =
    c.hands.invariant.count.0 ∙ at_the_end c.hands._hand c.args.count c.hands.auto._hand-end c.hands-test.false

pub returns-clause-each : goal.returns-clause-each
returns-clause-each c = c.hands.invariant.each
