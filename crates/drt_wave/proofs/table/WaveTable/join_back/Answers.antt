use Rattle.std.proofs.Common.{◌≡◌, ◌<◌, length, refl, sym, ap, ◌∙◌, subst, arith}
use Rattle.drt_wave.specs.Lane.{ClaimSeat, IsClaimSeat}
use Rattle.drt_wave.proofs.Parting.{glue_none, next_glued, glue_more, of_glued, is_glued}
use Rattle.drt_wave.proofs.table.WaveTable.join_back.Goals as goal

pub lanes-init : goal.lanes-init
lanes-init c =
    let t = c.args.self.now in let s = c.args.seat.now in let o = c.args.other in
    record { claims = refl; room = refl; other_room = refl; glue = glue_none t.lanes s.lanes.items o.lanes.items c.requires.seat.count c.requires.other.count }

pub join-requires-in-Some-clause-seat : goal.join-requires-in-Some-clause-seat
join-requires-in-Some-clause-seat c =
    let at : c.len-v.result ≡ length c.pop.new.self.items = omega (arith, c.len-v.ensures, c.pop.new.self.ok.0) in
    let f = next_glued c.args.self.now c.args.seat.now c.args.other _ _ _ c.len-v.result c.index-lanes-v.result c.index_mut.result.now c.in-Some.lane_seat c.as_slice-lanes.result.now
    c.requires.seat c.lanes.invariant.glue c.in-Some.ensures.items at c.as_slice-lanes.ensures c.index-lanes-v.is c.index_mut.ensures.value in
    f.0.sits

pub join-requires-in-Some-clause-other : goal.join-requires-in-Some-clause-other
join-requires-in-Some-clause-other c =
    let at : c.len-v.result ≡ length c.pop.new.self.items = omega (arith, c.len-v.ensures, c.pop.new.self.ok.0) in
    let f = next_glued c.args.self.now c.args.seat.now c.args.other _ _ _ c.len-v.result c.index-lanes-v.result c.index_mut.result.now c.in-Some.lane_seat c.as_slice-lanes.result.now
    c.requires.seat c.lanes.invariant.glue c.in-Some.ensures.items at c.as_slice-lanes.ensures c.index-lanes-v.is c.index_mut.ensures.value in
    (c.requires.other.lane c.len-v.result c.index-lanes-v.result c.in-Some.lane_seat f.0.at_lane f.2).0

pub join-requires-in-Some-clause-parts : goal.join-requires-in-Some-clause-parts
join-requires-in-Some-clause-parts c =
    let at : c.len-v.result ≡ length c.pop.new.self.items = omega (arith, c.len-v.ensures, c.pop.new.self.ok.0) in
    let f = next_glued c.args.self.now c.args.seat.now c.args.other _ _ _ c.len-v.result c.index-lanes-v.result c.index_mut.result.now c.in-Some.lane_seat c.as_slice-lanes.result.now
    c.requires.seat c.lanes.invariant.glue c.in-Some.ensures.items at c.as_slice-lanes.ensures c.index-lanes-v.is c.index_mut.ensures.value in
    subst (λ n. 0 < n) (sym f.0.parts) c.requires.parts

pub lanes-preserved : goal.lanes-preserved
lanes-preserved c =
    let at : c.len-v.result ≡ length c.pop.new.self.items = omega (arith, c.len-v.ensures, c.pop.new.self.ok.0) in
    let f = next_glued c.args.self.now c.args.seat.now c.args.other _ _ _ c.len-v.result c.index-lanes-v.result c.index_mut.result.now c.in-Some.lane_seat c.as_slice-lanes.result.now
    c.requires.seat c.lanes.invariant.glue c.in-Some.ensures.items at c.as_slice-lanes.ensures c.index-lanes-v.is c.index_mut.ensures.value in
    let inv = c.lanes.invariant in let e = c.join-in-Some.ensures in
    record {
      claims = inv.claims;
      room = inv.room;
      other_room = c.pop.ensures.capacity ∙ inv.other_room;
      glue = glue_more c.args.self.now.lanes c.args.seat.now.lanes.items c.args.other.lanes.items _ _ _ c.len-v.result _ _ c.in-Some.lane_seat _ inv.glue c.in-Some.ensures.items at
          f.0.at_lane f.1 (e.seat, e.joined);
    }

pub returns-clause-seat : goal.returns-clause-seat
returns-clause-seat c =
    let t = c.args.self.now in let inv = c.lanes.invariant in let of = c.requires.seat in
    let none : length c.lanes.others.items ≡ 0 = omega (arith, c.in_default.ensures.cases.0, c.lanes.others.ok.0) in
    of_glued t c.args.seat.now of c.args.other c.lanes.seat c.requires.other c.lanes.others.items none inv.glue
    (subst (IsClaimSeat t.claims) (sym inv.claims) c.join.ensures.seat)
    (ap (λ (q : ClaimSeat). q.me.0) inv.claims ∙ c.join.ensures.joined) (omega (arith, of.room, inv.room))

pub returns-clause-glued : goal.returns-clause-glued
returns-clause-glued c =
    let t = c.args.self.now in let inv = c.lanes.invariant in
    let none : length c.lanes.others.items ≡ 0 = omega (arith, c.in_default.ensures.cases.0, c.lanes.others.ok.0) in
    is_glued t c.args.seat.now c.requires.seat c.args.other c.lanes.seat c.requires.other c.lanes.others.items none inv.glue
    (ap (λ (q : ClaimSeat). q.me.0) inv.claims ∙ c.join.ensures.joined)
