use Rattle.std.proofs.Common.{◌≡◌, length, reverse, sym, ap, ◌∙◌, subst, arith}
use Rattle.arrayvec.proofs.ArrayVecLemmas.{items-with_items}
use Rattle.drt_wave.proofs.Sums.{at_inside}
use Rattle.drt_wave.proofs.Parting.{Closing, last_pair, lane_known, column_is, close_more, all_closed}
use Rattle.drt_wave.proofs.table.WaveTable.close.Goals as goal

pub close-requires-clause-seat : goal.close-requires-clause-seat
close-requires-clause-seat c =
    let t = c.args.self in
    let p = last_pair t.plan t.lanes _ c.pop.new.self.items c.args.seat.lanes.items _ c.pop-in-Some.new.self.items _ _ _ c.lanes.invariant
    c.in-Some.ensures.items c.in-Some-pop.ensures.items in
    (c.requires.seat.lane _ _ _ p.0 p.1).0

pub close-requires-clause-known : goal.close-requires-clause-known
close-requires-clause-known c =
    let t = c.args.self in let k = c.requires.known in
    let p = last_pair t.plan t.lanes _ c.pop.new.self.items c.args.seat.lanes.items _ c.pop-in-Some.new.self.items _ _ _ c.lanes.invariant
    c.in-Some.ensures.items c.in-Some-pop.ensures.items in
    let lt = at_inside t.lanes (length c.pop.new.self.items) c.in-Some.lane p.0 in let n = t.laned.count in
    lane_known t.plan t.planned _ c.in-Some.lane k.0 _ (t.laned.each _ _ p.0) (omega (arith, lt, n)) (k.1 _ _ p.1) k.2

pub lanes-preserved : goal.lanes-preserved
lanes-preserved c =
    let t = c.args.self in let inv = c.lanes.invariant in
    let p = last_pair t.plan t.lanes _ c.pop.new.self.items c.args.seat.lanes.items _ c.pop-in-Some.new.self.items _ _ _ inv c.in-Some.ensures.items c.in-Some-pop.ensures.items in
    let col = column_is t.plan _ c.in-Some.lane c.close.result (t.laned.each _ _ p.0) c.close.ensures.count c.close.ensures.best in
    subst (Closing t.plan t.lanes c.pop.new.self.items c.args.seat.lanes.items c.pop-in-Some.new.self.items) (sym c.push.ensures.items)
    (close_more t.plan t.lanes _ _ c.args.seat.lanes.items _ _ _ _ _ _ inv c.in-Some.ensures.items c.in-Some-pop.ensures.items col)

pub invariant_of-result : goal.invariant_of-result
invariant_of-result c =
    let t = c.args.self in let g = c.lanes.invariant in let now = c.as_mut_slice.ensures.value in
    let none : length c.lanes.lanes.items ≡ 0 = omega (arith, c.in_default.ensures.cases.0, c.lanes.lanes.ok.0) in
    let kept = items-with_items c.lanes.columns c.reverse.new.self (c.reverse.ensures.len ∙ ap length now) in
    let all = all_closed t.plan t.lanes _ c.args.seat.lanes.items _ _ _ g none t.laned.count (kept ∙ c.reverse.ensures.after ∙ ap reverse now) in
    (t.planned, all.0, all.1)
