use Rattle.std.proofs.Common.{◌≡◌, ◌<◌, ◌∙◌, length, get_or, arith}
use Rattle.std.proofs.lemmas.List.{get_or_default}
use Rattle.drt_sweep.proofs.Thinned.{rises_same}
use Rattle.drt_rates.proofs.Fronts.{next_front, next_are, next_works}
use Rattle.drt_rates.proofs.scanning.works.Goals as goal

pub tasks-init : goal.tasks-init
tasks-init c = record { fronts = c.requires; built = rw c.new-out.ensures.items (rises_same _) }

pub bounds-fronts-i : goal.bounds-fronts-i
bounds-fronts-i c = next_front c.args.bound c.tasks.i c.args.graphs.now c.args.fronts.now (omega (arith, c.tasks-test.true, c.count-i-end.ensures.count)) c.tasks.invariant.fronts

pub front_works-requires : goal.front_works-requires
front_works-requires c =
    let l : c.tasks.i < length c.args.graphs.now = omega (arith, c.tasks-test.true, c.count-i-end.ensures.count) in
    let m = next_front c.args.bound c.tasks.i c.args.graphs.now c.args.fronts.now l c.tasks.invariant.fronts in
    (next_are c.args.bound c.graph.result.now c.args.graphs.now c.as_slice-front.result.now c.args.fronts.now c.tasks.i l m (c.graph.ensures.graph ∙ get_or_default c.args.graphs.now c.tasks.i _ c.graph.result.now l)
    (rw c.as_slice-front.ensures c.index-fronts-i.is) c.tasks.invariant.fronts).0

pub tasks-preserved : goal.tasks-preserved
tasks-preserved c =
    let l : c.tasks.i < length c.args.graphs.now = omega (arith, c.tasks-test.true, c.count-i-end.ensures.count) in
    let m = next_front c.args.bound c.tasks.i c.args.graphs.now c.args.fronts.now l c.tasks.invariant.fronts in
    let g = c.graph.ensures.graph ∙ get_or_default c.args.graphs.now c.tasks.i _ c.graph.result.now l in
    let f : c.as_slice-front.result.now ≡ get_or c.args.fronts.now c.tasks.i c.as_slice-front.result.now = rw c.as_slice-front.ensures c.index-fronts-i.is in
    record {
      fronts = (next_are c.args.bound c.graph.result.now c.args.graphs.now _ c.args.fronts.now c.tasks.i l m g f c.tasks.invariant.fronts).1;
      built = rw (c.in_ok-extend_from_slice.ensures.items, c.as_slice.ensures.value) (next_works _ c.tasks.out.items c.in_ok-all.all.items c.in_ok-rises.field-0.items c.graph.result.now c.args.graphs.now _ c.args.fronts.now c.tasks.i l m g f c.tasks.invariant.built c.in_ok-all.ensures c.in_ok-rises.ensures);
    }
