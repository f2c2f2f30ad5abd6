use Rattle.std.proofs.Common.{◌≡◌, ℕ, ◌+◌, ◌<◌, ◌≤◌, ◌++◌, None, List, length, take, drop, sym, ap, ◌∙◌, subst, arith}
use Rattle.std.specs.Prelude.{IfSome}
use Rattle.std.proofs.Math.Seq.{take-append_seam}
use Rattle.drt_lock.specs.Seats.{Rests}
use Rattle.drt_pool.specs.Turns.{EachPlace}
use Rattle.drt_wave.specs.Seats.{HasRoomForLanes}
use Rattle.drt_wave.specs.Shifts.{IsShift}
use Rattle.drt_wave.specs.declared.relay.Hand.{Hand}
use Rattle.drt_wave.specs.declared.table.WaveTable.{WaveTable}
use Rattle.drt_wave.proofs.sharing.work_desk.Goals as goal

pub deal-requires-clause-name : goal.deal-requires-clause-name
deal-requires-clause-name g c = c.in_ok-lock.ensures.name

pub deal-requires-clause-owner : goal.deal-requires-clause-owner
deal-requires-clause-owner g c = (c.requires.workers, subst (λ (t : WaveTable). Rests t 1024 0 c.in_ok-lock.owner.me) (sym c.in_ok-lock.ensures.fixed) c.in_ok-lock.ensures.seat)

pub deal-requires-clause-room : goal.deal-requires-clause-room
deal-requires-clause-room g c = (c.in_ok-hands.ensures.items, c.in_ok-hands.ensures.capacity)

pub gather-requires-clause-name : goal.gather-requires-clause-name
gather-requires-clause-name g c = c.in_ok-deal.ensures.name

-- what is written back is what the workers left
left_by_workers : {A : Type 0} (n : ℕ) (xs ys : List A) → length xs ≡ n → take n (xs ++ ys) ≡ xs
left_by_workers n xs ys long = subst (λ m. take m (xs ++ ys) ≡ xs) long (take-append_seam xs ys)

few_hands : (m n workers : ℕ) → m ≡ n → n ≡ workers → workers ≤ 16 → m ≤ 16
few_hands m n workers same count few = omega arith

some_left : (parts workers : ℕ) → parts + workers ≡ 1024 → workers ≤ 16 → 0 < parts
some_left parts workers whole few = omega arith

pub run_all-requires-clause-count : goal.run_all-requires-clause-count
run_all-requires-clause-count g c κs within = few_hands _ _ _ (ap length c.as_mut_slice.ensures.value) c.in_ok-deal.ensures.count c.requires.workers

pub run_all-requires-clause-fits : goal.run_all-requires-clause-fits
run_all-requires-clause-fits g c κs within i d lt =
    let lock = c.in_ok-lock.lock in
    let table = c.args.table.now in
    let each = subst (λ (xs : List Hand). EachPlace (λ (place : ℕ) (hand : Hand). (hand.lock_seat.table_id ≡ lock.name) × Rests lock.fixed 1 0 hand.lock_seat.me × (hand.held ≡ None)
    × IfSome hand.room (λ room. HasRoomForLanes table room)) xs) (sym c.as_mut_slice.ensures.value) c.in_ok-deal.ensures.each in
    let hand = each i d lt in
    (hand.0, hand.1, subst (λ o. IfSome o (λ shift. IsShift table shift.wave shift.seat)) (sym hand.2) tt, hand.3)

pub gather-requires-clause-owner : goal.gather-requires-clause-owner
gather-requires-clause-owner g c =
    let passes : List Hand = c.run_all.new.passes in
    let given : List Hand = c.deal.new.hands.items in
    let long : length passes ≡ length given = c.run_all.ensures.count ∙ ap length c.as_mut_slice.ensures.value in
    let same : take c.deal.new.hands.len (passes ++ drop (length passes) given) ≡ passes =
    left_by_workers c.deal.new.hands.len passes (drop (length passes) given) (long ∙ sym c.deal.new.hands.ok.0) in
    let owner = c.in_ok-deal.ensures.owner in
    (some_left _ _ owner.0 c.requires.workers, ap (λ n. c.deal.new.owner.me.0.parts + n) (ap length same ∙ (long ∙ c.in_ok-deal.ensures.count)) ∙ owner.0, owner.1)

pub gather-requires-clause-each : goal.gather-requires-clause-each
gather-requires-clause-each g c =
    let lock = c.in_ok-lock.lock in
    let passes : List Hand = c.run_all.new.passes in
    let given : List Hand = c.deal.new.hands.items in
    let long : length passes ≡ length given = c.run_all.ensures.count ∙ ap length c.as_mut_slice.ensures.value in
    let same : take c.deal.new.hands.len (passes ++ drop (length passes) given) ≡ passes =
    left_by_workers c.deal.new.hands.len passes (drop (length passes) given) (long ∙ sym c.deal.new.hands.ok.0) in
    subst (λ (xs : List Hand). EachPlace (λ (place : ℕ) (hand : Hand). (hand.lock_seat.table_id ≡ lock.name) × Rests lock.fixed 1 0 hand.lock_seat.me) xs) (sym same)
    (λ i d lt. let hand = c.run_all.ensures.fits i d lt in (hand.0, hand.1))
