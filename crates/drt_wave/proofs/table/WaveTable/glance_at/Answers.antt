use Rattle.std.proofs.Common.{◌≤◌, sym, ap, subst, arith}
use Rattle.drt_wave.specs.declared.view.LaneKey.{LaneKey}
use Rattle.drt_wave.specs.declared.view.LaneView.{LaneView}
use Rattle.drt_wave.specs.Net.{Among, Reached, IsGreatestReaching}
use Rattle.drt_wave.proofs.Seating.{found, vertex_inside, of_lane, low_wave, with_is_of, with_kept, with_same, raised_here}
use Rattle.drt_wave.proofs.table.WaveTable.glance_at.Goals as goal

pub glance-requires-clause-seat : goal.glance-requires-clause-seat
glance-requires-clause-seat c =
    let f = found c.args.self.now c.args.seat.now c.args.vertex c.index-as_slice-vertex.result c.index_mut.result.now c.as_slice.result.now c.requires.seat
    (vertex_inside c.args.self.now c.args.vertex c.requires.vertex) c.as_slice.ensures c.index-as_slice-vertex.is c.index_mut.ensures.value in
    f.sits

pub glance-requires-clause-offset : goal.glance-requires-clause-offset
glance-requires-clause-offset c =
    let f = found c.args.self.now c.args.seat.now c.args.vertex c.index-as_slice-vertex.result c.index_mut.result.now c.as_slice.result.now c.requires.seat
    (vertex_inside c.args.self.now c.args.vertex c.requires.vertex) c.as_slice.ensures c.index-as_slice-vertex.is c.index_mut.ensures.value in
    omega (arith, f.lane.words, c.requires.offset)

pub returns-clause-seat : goal.returns-clause-seat
returns-clause-seat c =
    let f = found c.args.self.now c.args.seat.now c.args.vertex c.index-as_slice-vertex.result c.index_mut.result.now c.as_slice.result.now c.requires.seat
    (vertex_inside c.args.self.now c.args.vertex c.requires.vertex) c.as_slice.ensures c.index-as_slice-vertex.is c.index_mut.ensures.value in
    with_is_of c.args.self.now c.args.seat.now c.args.vertex c.index-as_slice-vertex.result c.index_mut.result.now c.glance.new.seat c.requires.seat f.at_lane f.at_seat c.glance.ensures.seat
    (ap (λ (w : LaneView LaneKey). w.parts) c.glance.ensures.learned.1)

pub returns-clause-kept : goal.returns-clause-kept
returns-clause-kept c =
    let f = found c.args.self.now c.args.seat.now c.args.vertex c.index-as_slice-vertex.result c.index_mut.result.now c.as_slice.result.now c.requires.seat
    (vertex_inside c.args.self.now c.args.vertex c.requires.vertex) c.as_slice.ensures c.index-as_slice-vertex.is c.index_mut.ensures.value in
    with_kept c.args.seat.now c.args.vertex c.index_mut.result.now c.glance.new.seat f.at_seat
    (subst (λ (w : LaneView LaneKey). c.index_mut.result.now.me.0.known ≤ w.known) (sym c.glance.ensures.learned.1) c.glance.ensures.learned.2)
    (λ o x a. subst (λ (w : LaneView LaneKey). Among (o, x) w.raised) (sym c.glance.ensures.learned.1) a)

pub returns-clause-same : goal.returns-clause-same
returns-clause-same c =
    let f = found c.args.self.now c.args.seat.now c.args.vertex c.index-as_slice-vertex.result c.index_mut.result.now c.as_slice.result.now c.requires.seat
    (vertex_inside c.args.self.now c.args.vertex c.requires.vertex) c.as_slice.ensures c.index-as_slice-vertex.is c.index_mut.ensures.value in
    with_same c.args.seat.now c.args.vertex c.index_mut.result.now c.glance.new.seat f.at_seat (λ o x a. subst (λ (w : LaneView LaneKey). Among (o, x) w.raised) c.glance.ensures.learned.1 a)

pub returns-clause-opened : goal.returns-clause-opened
returns-clause-opened c =
    let f = found c.args.self.now c.args.seat.now c.args.vertex c.index-as_slice-vertex.result c.index_mut.result.now c.as_slice.result.now c.requires.seat
    (vertex_inside c.args.self.now c.args.vertex c.requires.vertex) c.as_slice.ensures c.index-as_slice-vertex.is c.index_mut.ensures.value in
    of_lane (λ g b. g.opens b ≤ c.glance.result) c.args.self.now.plan c.args.vertex c.args.offset c.index-as_slice-vertex.result f.lane c.glance.ensures.read.opened

pub returns-clause-own : goal.returns-clause-own
returns-clause-own c =
    let f = found c.args.self.now c.args.seat.now c.args.vertex c.index-as_slice-vertex.result c.index_mut.result.now c.as_slice.result.now c.requires.seat
    (vertex_inside c.args.self.now c.args.vertex c.requires.vertex) c.as_slice.ensures c.index-as_slice-vertex.is c.index_mut.ensures.value in
    λ x r. c.glance.ensures.read.own x (raised_here c.args.seat.now c.args.vertex c.index_mut.result.now c.glance.new.seat f.at_seat c.args.offset x r)

pub returns-clause-reached : goal.returns-clause-reached
returns-clause-reached c =
    let f = found c.args.self.now c.args.seat.now c.args.vertex c.index-as_slice-vertex.result c.index_mut.result.now c.as_slice.result.now c.requires.seat
    (vertex_inside c.args.self.now c.args.vertex c.requires.vertex) c.as_slice.ensures c.index-as_slice-vertex.is c.index_mut.ensures.value in
    λ some_work. of_lane (λ g b. Reached g b c.glance.result) c.args.self.now.plan c.args.vertex c.args.offset c.index-as_slice-vertex.result f.lane (c.glance.ensures.read.reached some_work)

pub returns-clause-best : goal.returns-clause-best
returns-clause-best c =
    let f = found c.args.self.now c.args.seat.now c.args.vertex c.index-as_slice-vertex.result c.index_mut.result.now c.as_slice.result.now c.requires.seat
    (vertex_inside c.args.self.now c.args.vertex c.requires.vertex) c.as_slice.ensures c.index-as_slice-vertex.is c.index_mut.ensures.value in
    λ k known low. of_lane (λ g b. IsGreatestReaching g b c.glance.result) c.args.self.now.plan c.args.vertex c.args.offset c.index-as_slice-vertex.result f.lane
    (c.glance.ensures.read.best
    (low_wave c.args.self.now.plan c.args.seat.now c.args.vertex c.args.offset k c.index-as_slice-vertex.result c.index_mut.result.now f.lane f.at_seat c.requires.offset known low))
