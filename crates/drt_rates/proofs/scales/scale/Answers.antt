use Rattle.std.proofs.Common.{◌<◌, ◌+◌, length, take, arith}
use Rattle.drt_num.specs.Multiple.{IsLcm}
use Rattle.drt_graph.proofs.Scales.{done_at, scale_none, scale_push, scale_far}
use Rattle.drt_rates.specs.RatioClaims.{fraction_of}
use Rattle.drt_rates.specs.Rates.{IsSmallRatio}
use Rattle.drt_rates.proofs.Ratings.{all_at, scale_exists}
use Rattle.drt_rates.proofs.scales.scale.Goals as goal

pub ratios-init : goal.ratios-init
ratios-init c = record { scale = scale_none; most = omega arith }

pub returns-in_default : goal.returns-in_default
returns-in_default c =
    let x = c.index-ratios-i.result in
    let l : c.ratios.i < length c.args.ratios.now = omega arith in
    let e = done_at c.args.ratios.now c.ratios.i x l c.index-ratios-i.is in
    let small = all_at (λ c. IsSmallRatio (fraction_of c)) c.args.ratios.now c.ratios.i x l c.index-ratios-i.is c.requires in
    let far = c.in_default.ensures in
    let is : IsLcm c.ratios.common x.den far.0 = far.1 in
    let whole = scale_exists c.args.ratios.now c.requires in
    let more = scale_push fraction_of (take c.ratios.i c.args.ratios.now) x c.ratios.common far.0 c.ratios.invariant.scale small.some is in
    let most = scale_far fraction_of c.args.ratios.now _ (c.ratios.i + 1) far.0 whole.0 e more whole.1 in
    (whole.0, whole.1, omega (arith, far.2))

pub ratios-preserved : goal.ratios-preserved
ratios-preserved c =
    let x = c.index-ratios-i.result in
    let l : c.ratios.i < length c.args.ratios.now = omega arith in
    let e = done_at c.args.ratios.now c.ratios.i x l c.index-ratios-i.is in
    let small = all_at (λ c. IsSmallRatio (fraction_of c)) c.args.ratios.now c.ratios.i x l c.index-ratios-i.is c.requires in
    let is : IsLcm c.ratios.common x.den c.in-Some.next = c.in-Some.ensures.0 in
    record {
      scale = rw e (scale_push fraction_of (take c.ratios.i c.args.ratios.now) x c.ratios.common c.in-Some.next c.ratios.invariant.scale small.some is);
      most = omega (arith, c.in-Some.ensures.1);
    }
