use Rattle.std.proofs.Common.{◌≡◌, ◌<◌, length, true, refl, arith}
use Rattle.drt_claims.specs.Fronts.{IsOrdered}
use Rattle.drt_check_fronts.proofs.Eachs.{each_here, each_from, here_more, row_at}
use Rattle.drt_check_fronts.proofs.order.are_in_order.Goals as goal

pub returns-then-not-is_ordered : goal.returns-then-not-is_ordered
returns-then-not-is_ordered c =
    let e0 : length c.args.fronts.now ≡ length c.args.graphs.now = omega (arith, c.if-fronts-count.false, c.count.ensures.count) in
    let l : c.loop-i.i < length c.args.graphs.now = omega (arith, c.loop-i-test.true, c.count-i-end.ensures.count) in
    let at = row_at c.args.fronts.now c.loop-i.i c.as_slice.result.now c.index-fronts-i.result c.as_slice.ensures c.index-fronts-i.is in (
      λ e. absurd (cc),
      λ each.
          (let r : c.is_ordered.result ≡ true = c.is_ordered.ensures.1
          (each_here (IsOrdered c.args.bound) c.args.graphs.now c.args.fronts.now c.loop-i.i c.graph.result.now c.as_slice.result.now e0 l c.graph.ensures.graph at each.1) in absurd (cc)),
    )

pub loop-i-preserved : goal.loop-i-preserved
loop-i-preserved c =
    let e0 : length c.args.fronts.now ≡ length c.args.graphs.now = omega (arith, c.if-fronts-count.false, c.count.ensures.count) in
    let l : c.loop-i.i < length c.args.graphs.now = omega (arith, c.loop-i-test.true, c.count-i-end.ensures.count) in
    let m : c.loop-i.i < length c.args.fronts.now = omega (arith, l, e0) in
    let at = row_at c.args.fronts.now c.loop-i.i c.as_slice.result.now c.index-fronts-i.result c.as_slice.ensures c.index-fronts-i.is in
    let r : c.is_ordered.result ≡ true = cc in
    here_more (IsOrdered c.args.bound) c.args.graphs.now c.args.fronts.now c.loop-i.i c.graph.result.now c.as_slice.result.now m c.graph.ensures.graph at (c.is_ordered.ensures.0 r) c.loop-i.invariant

pub returns : goal.returns
returns c =
    let e0 : length c.args.fronts.now ≡ length c.args.graphs.now = omega (arith, c.if-fronts-count.false, c.count.ensures.count) in (
      λ e. (
        e0,
        each_from (IsOrdered c.args.bound) c.args.graphs.now c.args.fronts.now e0
            (λ k d l. c.loop-i.invariant k d (omega (arith, c.loop-i-test.false, c.count-i-end.ensures.count, l))),
      ),
      λ each. refl,
    )
