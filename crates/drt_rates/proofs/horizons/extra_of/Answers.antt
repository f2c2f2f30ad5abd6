use Rattle.std.proofs.Common.{◌<◌, length, arith}
use Rattle.std.proofs.lemmas.List.{drop_all}
use Rattle.drt_graph.proofs.Scales.{extra_cons, extra_none}
use Rattle.drt_rates.proofs.Ratings.{next_rated, rated_count}
use Rattle.drt_rates.proofs.horizons.extra_of.Goals as goal

pub bounds-ratios-i : goal.bounds-ratios-i
bounds-ratios-i c = omega (arith, c.tasks-test.true, c.count-i-end.ensures.count, rated_count c.args.graphs.now c.args.ratios.now c.requires.rated)

pub extra_at-total-requires-clause-small : goal.extra_at-total-requires-clause-small
extra_at-total-requires-clause-small c =
    let l : c.tasks.i < length c.args.graphs.now = omega (arith, c.tasks-test.true, c.count-i-end.ensures.count) in
    let next = next_rated c.args.graphs.now c.args.ratios.now c.tasks.i c.index-ratios-i.result c.requires.rated c.tasks.invariant.rated l c.index-ratios-i.is in
    next.small

pub extra_at-total-requires-clause-near : goal.extra_at-total-requires-clause-near
extra_at-total-requires-clause-near c =
    let l : c.tasks.i < length c.args.graphs.now = omega (arith, c.tasks-test.true, c.count-i-end.ensures.count) in
    let next = next_rated c.args.graphs.now c.args.ratios.now c.tasks.i c.index-ratios-i.result c.requires.rated c.tasks.invariant.rated l c.index-ratios-i.is in
    rw c.graph.ensures.graph next.near

pub tasks-preserved : goal.tasks-preserved
tasks-preserved c =
    let l : c.tasks.i < length c.args.graphs.now = omega (arith, c.tasks-test.true, c.count-i-end.ensures.count) in
    let next = next_rated c.args.graphs.now c.args.ratios.now c.tasks.i c.index-ratios-i.result c.requires.rated c.tasks.invariant.rated l c.index-ratios-i.is in
    let total = rw (next.graph, next.item, extra_cons) at c.tasks.invariant.total in
    let value = rw c.graph.ensures.graph at c.extra_at-total.ensures.value in
    let most = c.extra_at-total.ensures.most in
    record { rated = next.rest; total = omega (arith, total, value); most = omega (arith, c.tasks.invariant.most, most) }

pub returns : goal.returns
returns c =
    let e = drop_all c.tasks.i c.args.graphs.now (omega (arith, c.tasks-test.false, c.count-i-end.ensures.count)) in
    let total = rw (e, extra_none) at c.tasks.invariant.total in
    omega arith
