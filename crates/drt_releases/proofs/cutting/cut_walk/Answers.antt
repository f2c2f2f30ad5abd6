use Rattle.std.proofs.Common.{◌≡◌, ◌+◌, ◌<◌, ◌≤◌, Some, List, [], ◌∷◌, ◌++◌, ℕ, length, drop, get_or, sym, ap, subst, arith, ◌∙◌}
use Rattle.std.proofs.lemmas.List.{drop_all, drop_more, get_or_default}
use Rattle.drt_model.specs.Walk.{gap, sep}
use Rattle.drt_graph.proofs.Edges.{gap_of}
use Rattle.drt_releases.proofs.Cuts.{IsCut, cut_finished, cut_started, cut_stepped, cut_stopped}
use Rattle.drt_releases.proofs.cutting.cut_walk.Goals as goal

pub steps-init : goal.steps-init
steps-init c =
    let walk : List ℕ = c.args.walk.now in
    let g = c.args.graph.now in
    let some : 0 < length walk = grind arith in
    let first = get_or_default walk 0 0 (get_or walk 0 0) some in
    let items = c.in_ok-push.ensures.items ∙ ap (λ (xs : List ℕ). xs ++ get_or walk 0 0 ∷ []) c.new-kept.ensures.items in
    subst (λ (xs : List ℕ). IsCut g c.args.end walk xs (get_or walk 0 0) 0 (drop 1 walk)) (sym items)
    (cut_started g c.keep_limits.ensures c.args.end walk (get_or walk 0 0) c.requires.walk some first)

pub returns-then-offset-from : goal.returns-then-offset-from
returns-then-offset-from c =
    let walk : List ℕ = c.args.walk.now in
    let g = c.args.graph.now in
    let l : c.steps.i < length walk = omega (arith, c.steps-test.true) in
    let v = get_or walk c.steps.i 0 in
    let is = rw (drop_more walk c.steps.i 0 l) at c.steps.invariant in
    let e : sep g c.steps.vertex v ≡ Some c.in-Some.gap = sym c.separation.ensures ∙ c.in-Some.is in
    let q = gap_of g c.steps.vertex v c.in-Some.gap e in
    let late : c.args.end ≤ c.steps.offset + gap g c.steps.vertex v = omega (arith, q.0, c.if-offset-from.true, c.from.ensures, c.from-offset.ensures) in
    c.from_vec-then-offset-from.ensures ∙ cut_stopped g c.keep_limits.ensures c.args.end walk c.steps.kept.items c.steps.vertex c.steps.offset v (drop (c.steps.i + 1) walk) is late

pub steps-preserved : goal.steps-preserved
steps-preserved c =
    let walk : List ℕ = c.args.walk.now in
    let g = c.args.graph.now in
    let l : c.steps.i < length walk = omega (arith, c.steps-test.true) in
    let v = get_or walk c.steps.i 0 in
    let is = rw (drop_more walk c.steps.i 0 l) at c.steps.invariant in
    let e : sep g c.steps.vertex v ≡ Some c.in-Some.gap = sym c.separation.ensures ∙ c.in-Some.is in
    let q = gap_of g c.steps.vertex v c.in-Some.gap e in
    let few : c.args.end ≤ 4294967295 = omega (arith, c.ranges.end.fits) in
    let early : c.steps.offset + gap g c.steps.vertex v < c.args.end = omega (arith, q.0, c.if-offset-from.false, c.from.ensures, c.from-offset.ensures) in
    let time : c.steps.offset + c.from-offset.result ≡ c.steps.offset + gap g c.steps.vertex v = omega (arith, q.0, c.from-offset.ensures) in
    rw (c.in_ok-push-2.ensures.items, time)
    (cut_stepped g c.keep_limits.ensures c.args.end walk c.steps.kept.items c.steps.vertex c.steps.offset v (drop (c.steps.i + 1) walk) few is early)

pub returns : goal.returns
returns c =
    let walk : List ℕ = c.args.walk.now in
    let g = c.args.graph.now in
    let is = subst (λ (xs : List ℕ). IsCut g c.args.end walk c.steps.kept.items c.steps.vertex c.steps.offset xs) (drop_all c.steps.i walk c.steps-test.false) c.steps.invariant in
    c.from_vec-2.ensures ∙ cut_finished g c.keep_limits.ensures c.args.end walk c.steps.kept.items c.steps.vertex c.steps.offset is
