use Rattle.std.proofs.Common.{◌≡◌, ◌<◌, length, true, refl, arith}
use Rattle.drt_claims.specs.Fronts.{IsClosedFront, IsOrdered}
use Rattle.drt_check_fronts.proofs.Eachs.{each_here, each_from, here_more, row_at}
use Rattle.drt_check_fronts.proofs.closing.are_closed.Goals as goal

pub is_closed-requires-clause-order : goal.is_closed-requires-clause-order
is_closed-requires-clause-order c =
    let l : c.loop-i.i < length c.args.graphs.now = omega (arith, c.loop-i-test.true, c.count-i-end.ensures.count) in
    let at = row_at c.args.fronts.now c.loop-i.i c.as_slice.result.now c.index-fronts-i.result c.as_slice.ensures c.index-fronts-i.is in
    (each_here (IsOrdered c.args.bound) c.args.graphs.now c.args.fronts.now c.loop-i.i c.graph.result.now c.as_slice.result.now c.requires.order.0 l c.graph.ensures.graph at c.requires.order.1)

pub returns-then-not-is_closed : goal.returns-then-not-is_closed
returns-then-not-is_closed c =
    let l : c.loop-i.i < length c.args.graphs.now = omega (arith, c.loop-i-test.true, c.count-i-end.ensures.count) in
    let at = row_at c.args.fronts.now c.loop-i.i c.as_slice.result.now c.index-fronts-i.result c.as_slice.ensures c.index-fronts-i.is in (
      λ e. absurd (cc),
      λ each.
          (let r : c.is_closed.result ≡ true = c.is_closed.ensures.1
          (each_here (IsClosedFront c.args.bound) c.args.graphs.now c.args.fronts.now c.loop-i.i c.graph.result.now c.as_slice.result.now c.requires.order.0 l
          c.graph.ensures.graph at each) in absurd (cc)),
    )

pub loop-i-preserved : goal.loop-i-preserved
loop-i-preserved c =
    let l : c.loop-i.i < length c.args.graphs.now = omega (arith, c.loop-i-test.true, c.count-i-end.ensures.count) in
    let m : c.loop-i.i < length c.args.fronts.now = omega (arith, l, c.requires.order.0) in
    let at = row_at c.args.fronts.now c.loop-i.i c.as_slice.result.now c.index-fronts-i.result c.as_slice.ensures c.index-fronts-i.is in
    let r : c.is_closed.result ≡ true = cc in
    here_more (IsClosedFront c.args.bound) c.args.graphs.now c.args.fronts.now c.loop-i.i c.graph.result.now c.as_slice.result.now m c.graph.ensures.graph at
    (c.is_closed.ensures.0 r) c.loop-i.invariant

pub returns : goal.returns
returns c = (
  λ e. each_from (IsClosedFront c.args.bound) c.args.graphs.now c.args.fronts.now c.requires.order.0
      (λ k d l. c.loop-i.invariant k d (omega (arith, c.loop-i-test.false, c.count-i-end.ensures.count, l))),
  λ each. refl,
)
