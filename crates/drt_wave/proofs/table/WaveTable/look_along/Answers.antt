use Rattle.std.proofs.Common.{◌+◌, ◌≤◌, subst, arith}
use Rattle.drt_wave.proofs.Seating.{next_found, settled_at, first_wave, none_looked, one_looked, all_looked, all_is_of, all_kept, all_same, all_known}
use Rattle.drt_wave.proofs.table.WaveTable.look_along.Goals as goal

pub lanes-init : goal.lanes-init
lanes-init c = none_looked c.args.self.now c.args.wave c.args.seat.now

pub glance-requires-clause-seat : goal.glance-requires-clause-seat
glance-requires-clause-seat c =
    let f = next_found c.args.self.now c.args.wave c.args.seat.now c.lanes.seat c.lanes.v c.index-lanes-v.result c.index_mut.result.now c.as_slice-lanes.result.now c.requires.seat
    c.lanes.invariant c.lanes-test.true c.as_slice-lanes.ensures c.index-lanes-v.is c.index_mut.ensures.value in
    f.0.sits

pub glance-requires-clause-offset : goal.glance-requires-clause-offset
glance-requires-clause-offset c =
    let f = next_found c.args.self.now c.args.wave c.args.seat.now c.lanes.seat c.lanes.v c.index-lanes-v.result c.index_mut.result.now c.as_slice-lanes.result.now c.requires.seat
    c.lanes.invariant c.lanes-test.true c.as_slice-lanes.ensures c.index-lanes-v.is c.index_mut.ensures.value in
    omega (arith, f.0.lane.words, c.first_offset-first.ensures.within)

pub lanes-preserved : goal.lanes-preserved
lanes-preserved c =
    let f = next_found c.args.self.now c.args.wave c.args.seat.now c.lanes.seat c.lanes.v c.index-lanes-v.result c.index_mut.result.now c.as_slice-lanes.result.now c.requires.seat
    c.lanes.invariant c.lanes-test.true c.as_slice-lanes.ensures c.index-lanes-v.is c.index_mut.ensures.value in
    let plan = c.args.self.now.plan in let planned = c.args.self.now.planned in
    one_looked c.args.self.now c.args.wave c.args.seat.now c.lanes.seat c.lanes.v c.index-lanes-v.result c.index_mut.result.now c.glance.new.seat
    c.lanes.invariant f.0.at_lane f.1 c.glance.ensures.seat c.glance.ensures.learned
    (λ expanded. subst (λ i. i + 1 ≤ c.glance.new.seat.me.0.known)
    (first_wave plan c.lanes.v c.args.wave c.first_offset-first.result c.index-lanes-v.result planned f.0.lane c.first_offset-first.ensures.within c.first_offset-first.ensures.value)
    (c.glance.ensures.settled
    (settled_at plan c.args.seat.now c.args.wave c.lanes.v c.first_offset-first.result c.index-lanes-v.result c.index_mut.result.now planned f.0.lane f.0.at_seat
    c.first_offset-first.ensures.within c.first_offset-first.ensures.value expanded)))

pub returns-clause-seat : goal.returns-clause-seat
returns-clause-seat c =
    let h = all_looked c.args.self.now c.args.wave c.args.seat.now c.lanes.seat c.lanes.v c.as_slice-lanes.result.now c.lanes.invariant c.as_slice-lanes.ensures
    c.lanes.auto.v-end c.lanes-test.false in
    all_is_of c.args.self.now c.args.wave c.args.seat.now c.lanes.seat c.requires.seat h

pub returns-clause-kept : goal.returns-clause-kept
returns-clause-kept c =
    let h = all_looked c.args.self.now c.args.wave c.args.seat.now c.lanes.seat c.lanes.v c.as_slice-lanes.result.now c.lanes.invariant c.as_slice-lanes.ensures
    c.lanes.auto.v-end c.lanes-test.false in
    all_kept c.args.self.now c.args.wave c.args.seat.now c.lanes.seat c.requires.seat h

pub returns-clause-same : goal.returns-clause-same
returns-clause-same c =
    let h = all_looked c.args.self.now c.args.wave c.args.seat.now c.lanes.seat c.lanes.v c.as_slice-lanes.result.now c.lanes.invariant c.as_slice-lanes.ensures
    c.lanes.auto.v-end c.lanes-test.false in
    all_same c.args.self.now c.args.wave c.args.seat.now c.lanes.seat c.requires.seat h

pub returns-clause-known : goal.returns-clause-known
returns-clause-known c =
    let h = all_looked c.args.self.now c.args.wave c.args.seat.now c.lanes.seat c.lanes.v c.as_slice-lanes.result.now c.lanes.invariant c.as_slice-lanes.ensures
    c.lanes.auto.v-end c.lanes-test.false in
    all_known c.args.self.now c.args.wave c.args.seat.now c.lanes.seat c.requires.seat h
