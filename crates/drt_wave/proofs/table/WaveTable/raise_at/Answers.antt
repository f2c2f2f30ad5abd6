use Rattle.std.proofs.Common.{◌<◌, ◌≤◌, sym, ap, refl, subst, inl, inr, arith}
use Rattle.drt_wave.specs.declared.view.LaneKey.{LaneKey}
use Rattle.drt_wave.specs.declared.view.LaneView.{LaneView}
use Rattle.drt_wave.specs.Net.{Among, Reached}
use Rattle.drt_wave.proofs.Seating.{found, vertex_inside, to_lane, with_is_of, with_kept, with_raised, only_this}
use Rattle.drt_wave.proofs.table.WaveTable.raise_at.Goals as goal

pub raise-requires-clause-seat : goal.raise-requires-clause-seat
raise-requires-clause-seat c =
    let f = found c.args.self.now c.args.seat.now c.args.vertex c.index-as_slice-vertex.result c.index_mut.result.now c.as_slice.result.now c.requires.seat
    (vertex_inside c.args.self.now c.args.vertex c.requires.vertex) c.as_slice.ensures c.index-as_slice-vertex.is c.index_mut.ensures.value in
    f.sits

pub raise-requires-clause-parts : goal.raise-requires-clause-parts
raise-requires-clause-parts c =
    let f = found c.args.self.now c.args.seat.now c.args.vertex c.index-as_slice-vertex.result c.index_mut.result.now c.as_slice.result.now c.requires.seat
    (vertex_inside c.args.self.now c.args.vertex c.requires.vertex) c.as_slice.ensures c.index-as_slice-vertex.is c.index_mut.ensures.value in
    subst (λ n. 0 < n) (sym f.parts) c.requires.parts

pub raise-requires-clause-offset : goal.raise-requires-clause-offset
raise-requires-clause-offset c =
    let f = found c.args.self.now c.args.seat.now c.args.vertex c.index-as_slice-vertex.result c.index_mut.result.now c.as_slice.result.now c.requires.seat
    (vertex_inside c.args.self.now c.args.vertex c.requires.vertex) c.as_slice.ensures c.index-as_slice-vertex.is c.index_mut.ensures.value in
    omega (arith, f.lane.words, c.requires.offset)

pub raise-requires-clause-work : goal.raise-requires-clause-work
raise-requires-clause-work c =
    let f = found c.args.self.now c.args.seat.now c.args.vertex c.index-as_slice-vertex.result c.index_mut.result.now c.as_slice.result.now c.requires.seat
    (vertex_inside c.args.self.now c.args.vertex c.requires.vertex) c.as_slice.ensures c.index-as_slice-vertex.is c.index_mut.ensures.value in
    to_lane (λ g b. Reached g b c.args.work) c.args.self.now.plan c.args.vertex c.args.offset c.index-as_slice-vertex.result f.lane c.requires.work

pub returns-clause-seat : goal.returns-clause-seat
returns-clause-seat c =
    let f = found c.args.self.now c.args.seat.now c.args.vertex c.index-as_slice-vertex.result c.index_mut.result.now c.as_slice.result.now c.requires.seat
    (vertex_inside c.args.self.now c.args.vertex c.requires.vertex) c.as_slice.ensures c.index-as_slice-vertex.is c.index_mut.ensures.value in
    with_is_of c.args.self.now c.args.seat.now c.args.vertex c.index-as_slice-vertex.result c.index_mut.result.now c.raise.new.seat c.requires.seat f.at_lane f.at_seat c.raise.ensures.seat
    (ap (λ (w : LaneView LaneKey). w.parts) c.raise.ensures.raised)

pub returns-clause-kept : goal.returns-clause-kept
returns-clause-kept c =
    let f = found c.args.self.now c.args.seat.now c.args.vertex c.index-as_slice-vertex.result c.index_mut.result.now c.as_slice.result.now c.requires.seat
    (vertex_inside c.args.self.now c.args.vertex c.requires.vertex) c.as_slice.ensures c.index-as_slice-vertex.is c.index_mut.ensures.value in
    with_kept c.args.seat.now c.args.vertex c.index_mut.result.now c.raise.new.seat f.at_seat
    (subst (λ (w : LaneView LaneKey). c.index_mut.result.now.me.0.known ≤ w.known) (sym c.raise.ensures.raised) (omega arith))
    (λ o x a. subst (λ (w : LaneView LaneKey). Among (o, x) w.raised) (sym c.raise.ensures.raised) (inr a))

pub returns-clause-only : goal.returns-clause-only
returns-clause-only c =
    let f = found c.args.self.now c.args.seat.now c.args.vertex c.index-as_slice-vertex.result c.index_mut.result.now c.as_slice.result.now c.requires.seat
    (vertex_inside c.args.self.now c.args.vertex c.requires.vertex) c.as_slice.ensures c.index-as_slice-vertex.is c.index_mut.ensures.value in
    λ v o x r. only_this c.args.seat.now c.args.vertex c.index_mut.result.now c.raise.new.seat f.at_seat c.args.offset c.args.work
    (ap (λ (w : LaneView LaneKey). w.raised) c.raise.ensures.raised) v o x r

pub returns-clause-raised : goal.returns-clause-raised
returns-clause-raised c =
    let f = found c.args.self.now c.args.seat.now c.args.vertex c.index-as_slice-vertex.result c.index_mut.result.now c.as_slice.result.now c.requires.seat
    (vertex_inside c.args.self.now c.args.vertex c.requires.vertex) c.as_slice.ensures c.index-as_slice-vertex.is c.index_mut.ensures.value in
    with_raised c.args.seat.now c.args.vertex c.index_mut.result.now c.raise.new.seat f.at_seat c.args.offset c.args.work
    (subst (λ (w : LaneView LaneKey). Among (c.args.offset, c.args.work) w.raised) (sym c.raise.ensures.raised) (inl refl))
