use Rattle.std.proofs.Common.{◌≡◌, ◌+◌, ◌<◌, ◌≤◌, ap, arith, get_or}
use Rattle.drt_model.specs.Numbers.{most_time}
use Rattle.drt_model.specs.declared.tasks.Vertex.{Vertex}
use Rattle.drt_model.specs.Walk.{wcet}
use Rattle.drt_check_trees.specs.Gaps.{leap}
use Rattle.drt_check_trees.proofs.Asks.{settled_more, settled_not}
use Rattle.drt_check_trees.proofs.asking.asks_no_less.Goals as goal

pub returns-then-cursor-work : goal.returns-then-cursor-work
returns-then-cursor-work c =
    let v = ap (λ (x : Vertex). x.wcet) c.vertex.ensures in
    let less : c.advance-cursor.result.work < c.loop-i.work + wcet c.args.graph.now (get_or c.args.other.now c.loop-i.i 0) = omega (arith, c.if-cursor-work.true, v) in (
      λ e. absurd (cc),
      λ no_less. absurd (
          settled_not c.args.graph.now c.args.bound c.args.other.now c.args.walk.now c.loop-i.i c.loop-i.offset c.loop-i.work c.loop-i.cursor c.loop-i.invariant
          c.advance-cursor.result c.loop-i-test.true c.if-offset-bound.false c.advance-cursor.ensures.same c.advance-cursor.ensures.past less no_less
          ),
    )

pub loop-i-preserved : goal.loop-i-preserved
loop-i-preserved c =
    let g = c.args.graph.now in
    let v : c.vertex.result.now.wcet ≡ wcet g (get_or c.args.other.now c.loop-i.i 0) = ap (λ (x : Vertex). x.wcet) c.vertex.ensures in
    let o : c.next_offset-offset.result ≡ c.loop-i.offset + leap g c.args.other.now c.loop-i.i = c.next_offset-offset.ensures.value in
    let small : wcet g (get_or c.args.other.now c.loop-i.i 0) ≤ most_time = (c.keep_limits.ensures.wcet _ (c.requires.other.each c.loop-i.i 0 c.loop-i-test.true)).1 in
    let short : leap g c.args.other.now c.loop-i.i ≤ most_time = omega (arith, o, c.next_offset-offset.ensures.most) in
    let enough : c.loop-i.work + wcet g (get_or c.args.other.now c.loop-i.i 0) ≤ c.advance-cursor.result.work = omega (arith, c.if-cursor-work.false, v) in
    rw (v, o) (settled_more g c.args.bound c.args.other.now c.args.walk.now c.loop-i.i c.loop-i.offset c.loop-i.work c.loop-i.cursor c.loop-i.invariant
    c.advance-cursor.result c.loop-i-test.true c.if-offset-bound.false c.advance-cursor.ensures.same c.advance-cursor.ensures.placed small short enough)
