use Rattle.std.proofs.Common.{◌<◌, ◌≤◌, ◌+◌, refl, arith}
use Rattle.drt_check_trees.proofs.Shorts.{ends, steps, too_long}
use Rattle.drt_check_trees.proofs.short.is_short.Goals as goal

pub returns-then-gap-bound : goal.returns-then-gap-bound
returns-then-gap-bound c =
    let over : c.args.bound ≤ c.loop-i.span + c.in-Some.gap = omega (arith, c.if-gap-bound.true, c.loop-i.invariant.below) in (
      λ e. absurd (cc),
      λ is. absurd
          (too_long c.args.bound c.args.graph.now c.args.walk.now c.loop-i.at c.loop-i.span c.loop-i.i c.loop-i.invariant c.loop-i-test.true c.in-Some.gap c.in-Some.ensures over is),
    )

pub loop-i-preserved : goal.loop-i-preserved
loop-i-preserved c =
    let below : c.loop-i.span + c.in-Some.gap < c.args.bound = omega (arith, c.if-gap-bound.false, c.loop-i.invariant.below) in
    steps c.args.bound c.args.graph.now c.args.walk.now c.loop-i.at c.loop-i.span c.loop-i.i c.loop-i.invariant c.loop-i-test.true c.vertex_count.ensures.sound c.in-Some.gap c.in-Some.ensures below

pub returns : goal.returns
returns c = (λ e. ends c.args.bound c.args.graph.now c.args.walk.now c.loop-i.at c.loop-i.span c.loop-i.i c.loop-i.invariant c.loop-i-test.false, λ is. refl)
