use Rattle.std.proofs.Common.{◌≡◌, ◌<◌, length, true, refl, arith}
use Rattle.drt_claims.specs.Fronts.{HasOpenings, IsOrdered}
use Rattle.drt_check_fronts.proofs.Eachs.{each_here, each_from, row_at}
use Rattle.drt_check_fronts.proofs.opening.have_openings.Goals as goal

pub has_openings-requires : goal.has_openings-requires
has_openings-requires c =
    let l : c.loop-i.i < length c.args.graphs.now = omega (arith, c.loop-i-test.true, c.count-i-end.ensures.count) in
    let at = row_at c.args.fronts.now c.loop-i.i c.as_slice.result.now c.index-fronts-i.result c.as_slice.ensures c.index-fronts-i.is in
    (each_here (IsOrdered c.args.bound) c.args.graphs.now c.args.fronts.now c.loop-i.i c.graph.result.now c.as_slice.result.now c.requires.0 l c.graph.ensures.graph at c.requires.1).1

pub returns-then-not-has_openings : goal.returns-then-not-has_openings
returns-then-not-has_openings c =
    let l : c.loop-i.i < length c.args.graphs.now = omega (arith, c.loop-i-test.true, c.count-i-end.ensures.count) in
    let at = row_at c.args.fronts.now c.loop-i.i c.as_slice.result.now c.index-fronts-i.result c.as_slice.ensures c.index-fronts-i.is in (
      λ e. absurd (cc),
      λ each.
          (let r : c.has_openings.result ≡ true = c.has_openings.ensures.1
          (each_here (HasOpenings c.args.bound) c.args.graphs.now c.args.fronts.now c.loop-i.i c.graph.result.now c.as_slice.result.now c.requires.0 l c.graph.ensures.graph
          at each) in absurd (cc)),
    )

pub returns : goal.returns
returns c = (
  λ e. each_from (HasOpenings c.args.bound) c.args.graphs.now c.args.fronts.now c.requires.0
      (λ k d l. c.loop-i.invariant k d (omega (arith, c.loop-i-test.false, c.count-i-end.ensures.count, l))),
  λ each. refl,
)
