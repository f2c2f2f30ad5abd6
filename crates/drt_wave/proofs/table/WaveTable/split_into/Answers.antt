use Rattle.std.proofs.Common.{◌<◌, ◌+◌, List, set, sym, ap, ◌∙◌, subst, arith}
use Rattle.drt_wave.specs.Lane.{ClaimSeat, LaneSeat}
use Rattle.drt_wave.specs.Claims.{claims_left, claims_right}
use Rattle.drt_wave.proofs.Parting.{Cutting, next_cut, all_cut, cut_more, of_left, of_right, is_cut}
use Rattle.drt_wave.proofs.table.WaveTable.split_into.Goals as goal

pub split-requires-clause-seat : goal.split-requires-clause-seat
split-requires-clause-seat c =
    let f = next_cut c.args.self.now c.args.seat.now c.lanes.seat.lanes.items c.lanes.cut.items c.lanes.v c.index-lanes-v.result c.index_mut.result.now c.as_slice-lanes.result.now
    c.requires.seat c.lanes.invariant.cut c.lanes-test.true c.as_slice-lanes.ensures c.index-lanes-v.is c.index_mut.ensures.value in
    f.0.sits

pub split-requires-clause-parts : goal.split-requires-clause-parts
split-requires-clause-parts c =
    let f = next_cut c.args.self.now c.args.seat.now c.lanes.seat.lanes.items c.lanes.cut.items c.lanes.v c.index-lanes-v.result c.index_mut.result.now c.as_slice-lanes.result.now
    c.requires.seat c.lanes.invariant.cut c.lanes-test.true c.as_slice-lanes.ensures c.index-lanes-v.is c.index_mut.ensures.value in
    subst (λ n. 1 < n) (sym f.0.parts) c.requires.parts

pub lanes-preserved : goal.lanes-preserved
lanes-preserved c =
    let f = next_cut c.args.self.now c.args.seat.now c.lanes.seat.lanes.items c.lanes.cut.items c.lanes.v c.index-lanes-v.result c.index_mut.result.now c.as_slice-lanes.result.now
    c.requires.seat c.lanes.invariant.cut c.lanes-test.true c.as_slice-lanes.ensures c.index-lanes-v.is c.index_mut.ensures.value in
    let t = c.args.self.now in let inv = c.lanes.invariant in let v = c.lanes.v in let olds = c.args.seat.now.lanes.items in let e = c.split.ensures in
    record {
      claims = inv.claims;
      room = inv.room;
      cut_room = c.push_reserved.ensures.capacity ∙ inv.cut_room;
      cut = subst (λ (xs : List LaneSeat). Cutting t.lanes olds (set c.lanes.seat.lanes.items v c.split.new.seat) xs (v + 1)) (sym c.push_reserved.ensures.items)
          (cut_more t.lanes olds _ _ v _ _ c.split.new.seat c.split.result inv.cut f.0.at_lane f.1 (e.seat, e.left) (e.new, e.right));
    }

pub returns-clause-seat : goal.returns-clause-seat
returns-clause-seat c =
    let t = c.args.self.now in let s = c.args.seat.now in let inv = c.lanes.invariant in let e = c.split-2.ensures in
    let cut = all_cut t s.lanes.items c.lanes.seat.lanes.items c.lanes.cut.items c.lanes.v c.as_slice-lanes.result.now inv.cut c.as_slice-lanes.ensures c.lanes.auto.v-end c.lanes-test.false in
    of_left t s c.requires.seat (record { claims = c.split-2.new.seat; lanes = c.lanes.seat.lanes }) (record { claims = c.split-2.result; lanes = c.lanes.cut }) cut
    e.seat (e.left ∙ ap (λ (q : ClaimSeat). claims_left q.me.0) inv.claims) (omega (arith, c.requires.seat.room, inv.room))

pub returns-clause-new : goal.returns-clause-new
returns-clause-new c =
    let t = c.args.self.now in let s = c.args.seat.now in let inv = c.lanes.invariant in let e = c.split-2.ensures in
    let cut = all_cut t s.lanes.items c.lanes.seat.lanes.items c.lanes.cut.items c.lanes.v c.as_slice-lanes.result.now inv.cut c.as_slice-lanes.ensures c.lanes.auto.v-end c.lanes-test.false in
    of_right t s c.requires.seat (record { claims = c.split-2.new.seat; lanes = c.lanes.seat.lanes }) (record { claims = c.split-2.result; lanes = c.lanes.cut }) cut
    e.new (e.right ∙ ap (λ (q : ClaimSeat). claims_right q.me.0) inv.claims) (omega (arith, c.requires.room.1, inv.cut_room))

pub returns-clause-cut : goal.returns-clause-cut
returns-clause-cut c =
    let t = c.args.self.now in let s = c.args.seat.now in let inv = c.lanes.invariant in let e = c.split-2.ensures in
    let cut = all_cut t s.lanes.items c.lanes.seat.lanes.items c.lanes.cut.items c.lanes.v c.as_slice-lanes.result.now inv.cut c.as_slice-lanes.ensures c.lanes.auto.v-end c.lanes-test.false in
    is_cut t s c.requires.seat (record { claims = c.split-2.new.seat; lanes = c.lanes.seat.lanes }) (record { claims = c.split-2.result; lanes = c.lanes.cut }) cut c.requires.parts
    (e.left ∙ ap (λ (q : ClaimSeat). claims_left q.me.0) inv.claims)
    (e.right ∙ ap (λ (q : ClaimSeat). claims_right q.me.0) inv.claims)
