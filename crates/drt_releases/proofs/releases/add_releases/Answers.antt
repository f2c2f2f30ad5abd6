use Rattle.std.proofs.Common.{◌≡◌, ◌+◌, ◌<◌, Some, length, get_or, sym, arith, ◌∙◌}
use Rattle.std.proofs.lemmas.List.{drop_more, get_or_default}
use Rattle.drt_model.specs.Walk.{gap, sep}
use Rattle.drt_graph.proofs.Edges.{gap_of, target_of}
use Rattle.drt_releases.proofs.Walks.{started, stepped}
use Rattle.drt_releases.proofs.releases.add_releases.Goals as goal

pub steps-init : goal.steps-init
steps-init c =
    let walk = c.args.walk.now in
    let some : 0 < length walk = grind arith in
    let first = get_or_default walk 0 0 (get_or walk 0 0) some in
    rw (c.in_ok-push.ensures.items, c.release_at.ensures) (started c.args.graph.now c.args.task c.args.t c.args.releases.now.items (get_or walk 0 0) walk c.requires.walk c.requires.due some first)

pub release_at-requires-in-steps : goal.release_at-requires-in-steps
release_at-requires-in-steps c =
    let e = sym c.separation.ensures ∙ c.in-Some.is in
    (target_of c.args.graph.now c.vertex_count-count.ensures.sound c.steps.vertex (get_or c.args.walk.now c.steps.i 0) c.in-Some.gap e).0

pub steps-preserved : goal.steps-preserved
steps-preserved c =
    let g = c.args.graph.now in
    let walk = c.args.walk.now in
    let l : c.steps.i < length walk = omega (arith, c.steps-test.true) in
    let v = get_or walk c.steps.i 0 in
    let step = rw (drop_more walk c.steps.i 0 l) at c.steps.invariant in
    let e : sep g c.steps.vertex v ≡ Some c.in-Some.gap = sym c.separation.ensures ∙ c.in-Some.is in
    let q = gap_of g c.steps.vertex v c.in-Some.gap e in
    let time : c.steps.time + c.from-time.result ≡ c.steps.time + gap g c.steps.vertex v = omega (arith, q.0, c.from-time.ensures) in
    rw (c.in_ok-push-2.ensures.items, c.release_at-in-steps.ensures, time)
    (stepped g c.vertex_count-count.ensures.sound c.args.task c.args.t _ c.steps.releases.items c.steps.time c.steps.vertex v _ step)
