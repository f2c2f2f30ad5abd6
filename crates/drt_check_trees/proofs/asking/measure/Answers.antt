use Rattle.std.proofs.Common.{ap, arith}
use Rattle.drt_model.specs.declared.tasks.Vertex.{Vertex}
use Rattle.drt_check_trees.proofs.Asks.{span_at, work_at, work_end}
use Rattle.drt_check_trees.proofs.asking.measure.Goals as goal

pub loop-i-preserved : goal.loop-i-preserved
loop-i-preserved c =
    let g = c.args.graph.now in
    let walk = c.args.walk.now in
    let i = c.loop-i.i in
    let w = work_at g walk i c.loop-i-test.true in
    let s = span_at g walk i c.loop-i-test.true in
    let v = ap (λ (x : Vertex). x.wcet) c.vertex.ensures in
    let small = (c.keep_limits.ensures.wcet _ (c.requires.within.each i 0 c.loop-i-test.true)).1 in (
      omega (arith, c.loop-i.invariant.0, w, v),
      omega (arith, c.loop-i.invariant.1, s, c.next_offset-span.ensures.value),
      omega (arith, c.loop-i.invariant.2, v, small),
      omega (arith, c.loop-i.invariant.3, c.next_offset-span.ensures.most),
    )

pub returns-clause-work : goal.returns-clause-work
returns-clause-work c = omega (arith, c.loop-i.invariant.0, work_end c.args.graph.now c.args.walk.now c.loop-i.i c.loop-i-test.false)
