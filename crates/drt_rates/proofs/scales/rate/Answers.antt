use Rattle.std.proofs.Common.{◌<◌, length, arith}
use Rattle.std.proofs.lemmas.List.{drop_all}
use Rattle.drt_graph.proofs.Scales.{left_at, rate_cons, rate_none, term_small}
use Rattle.drt_rates.specs.RatioClaims.{fraction_of}
use Rattle.drt_rates.specs.Rates.{IsSmallRatio}
use Rattle.drt_rates.proofs.Ratings.{all_at}
use Rattle.drt_rates.proofs.scales.rate.Goals as goal

pub ratios-preserved : goal.ratios-preserved
ratios-preserved c =
    let x = c.index-ratios-i.result in
    let l : c.ratios.i < length c.args.ratios.now = omega arith in
    let left = left_at c.args.ratios.now c.ratios.i x l c.index-ratios-i.is in
    let total = rw (left, rate_cons) at c.ratios.invariant.total in
    let small = all_at (λ c. IsSmallRatio (fraction_of c)) c.args.ratios.now c.ratios.i x l c.index-ratios-i.is c.requires.small in
    let term = term_small x.num x.den c.args.scale small.num (omega arith) in
    record { total = omega arith; most = omega arith }

pub returns : goal.returns
returns c =
    let e = drop_all c.ratios.i c.args.ratios.now (omega arith) in
    let total = rw (e, rate_none) at c.ratios.invariant.total in
    omega arith
