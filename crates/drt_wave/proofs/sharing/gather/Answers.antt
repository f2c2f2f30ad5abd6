use Rattle.std.proofs.Common.{◌≡◌, ◌<◌, ◌+◌, ℕ, [], ◌∷◌, ap, refl, ◌∙◌, length, length-append, arith}
use Rattle.drt_lock.specs.Seats.{Rests}
use Rattle.drt_pool.proofs.Places.{places_last}
use Rattle.drt_wave.proofs.sharing.gather.Goals as goal

pub hands-init : goal.hands-init
hands-init c = record { name = c.requires.name; owner = c.requires.owner; each = c.requires.each }

pub join-requires-clause-name : goal.join-requires-clause-name
join-requires-clause-name c =
    let inv = c.hands.invariant in let l = c.args.lock in
    let last = places_last (λ hand. (hand.lock_seat.table_id ≡ l.name) × Rests l.fixed 1 0 hand.lock_seat.me) c.pop.new.self.items c.hands.hands.items c.in-Some.hand
    c.in-Some.ensures.items inv.each in
    (inv.name, last.1.0)

pub join-requires-clause-seat : goal.join-requires-clause-seat
join-requires-clause-seat c =
    let owner = c.hands.invariant.owner in (owner.0, ((owner.2.0.0, refl, refl), owner.2.1, owner.2.2))

pub join-requires-clause-other : goal.join-requires-clause-other
join-requires-clause-other c =
    let inv = c.hands.invariant in let l = c.args.lock in
    let last = places_last (λ hand. (hand.lock_seat.table_id ≡ l.name) × Rests l.fixed 1 0 hand.lock_seat.me) c.pop.new.self.items c.hands.hands.items c.in-Some.hand
    c.in-Some.ensures.items inv.each in
    ((last.1.1.0.0, refl, refl), last.1.1.1, last.1.1.2)

-- the counts of parts and of steps after a hand is joined, whose hands were n and are m now
module _ (p n new hand m : ℕ) (some : 0 < p) (whole : p + n ≡ 1024) (more : new ≡ p + hand) (one : hand ≡ 1) (popped : n ≡ m + 1) where
  some_parts : 0 < new
  some_parts = omega arith

  whole_parts : new + m ≡ 1024
  whole_parts = omega arith

one_fewer : (n m : ℕ) → n ≡ m + 1 → m < n
one_fewer n m popped = omega arith

none_counted : (x y z : ℕ) → z ≡ x + y → x ≡ 0 → y ≡ 0 → z ≡ 0
none_counted x y z sum first second = omega arith

pub hands-preserved : goal.hands-preserved
hands-preserved c =
    let inv = c.hands.invariant in let l = c.args.lock in let owner = inv.owner in
    let last = places_last (λ hand. (hand.lock_seat.table_id ≡ l.name) × Rests l.fixed 1 0 hand.lock_seat.me) c.pop.new.self.items c.hands.hands.items c.in-Some.hand
    c.in-Some.ensures.items inv.each in
    let hand = last.1.1.0 in let joined = c.join.ensures.seat in
    let popped : length c.hands.hands.items ≡ length c.pop.new.self.items + 1 = ap length c.in-Some.ensures.items ∙ length-append c.pop.new.self.items (c.in-Some.hand ∷ []) in
    record {
      name = c.join.ensures.name;
      owner = (
        some_parts _ _ _ _ _ owner.0 owner.1 joined.0.1 hand.1 popped,
        whole_parts _ _ _ _ _ owner.0 owner.1 joined.0.1 hand.1 popped,
        ((joined.0.0, refl, none_counted _ _ _ joined.0.2 owner.2.0.2 hand.2), joined.1, joined.2),
      );
      each = last.0;
    }

pub close-requires-clause-name : goal.close-requires-clause-name
close-requires-clause-name c = c.hands.invariant.name

pub close-requires-clause-seat : goal.close-requires-clause-seat
close-requires-clause-seat c =
    let owner = c.hands.invariant.owner in
    let all : c.hands.owner.me.0.parts ≡ 1024 = omega (arith, owner.1, c.in_default.ensures.cases.0, c.hands.hands.ok.0) in
    ((owner.2.0.0, all, refl), owner.2.1, owner.2.2)

pub hands-smaller : goal.hands-smaller
hands-smaller c =
    let popped : length c.hands.hands.items ≡ length c.pop.new.self.items + 1 = ap length c.in-Some.ensures.items ∙ length-append c.pop.new.self.items (c.in-Some.hand ∷ []) in
    one_fewer (length c.hands.hands.items) (length c.pop.new.self.items) popped
