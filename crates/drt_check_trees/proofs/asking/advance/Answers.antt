use Rattle.std.proofs.Common.{◌≡◌, ℕ, ◌+◌, ◌<◌, ◌≤◌, ap, arith, drop, get_or, length}
use Rattle.drt_model.specs.Numbers.{most_time}
use Rattle.drt_model.specs.declared.tasks.Vertex.{Vertex}
use Rattle.drt_model.specs.Walk.{wcet}
use Rattle.drt_check_trees.specs.Asking.{asked_by_rest}
use Rattle.drt_check_trees.proofs.Asks.{asks_at}
use Rattle.drt_check_trees.proofs.asking.advance.Goals as goal

pub loop-cursor-preserved : goal.loop-cursor-preserved
loop-cursor-preserved c =
    let g = c.args.graph.now in
    let walk = c.args.walk.now in
    let d = c.loop-cursor.cursor in
    let l : d.place < length walk = omega arith in
    let v : c.vertex.result.now.wcet ≡ wcet g (get_or walk d.place 0) = ap (λ (x : Vertex). x.wcet) c.vertex.ensures in
    let small : wcet g (get_or walk d.place 0) ≤ most_time = (c.keep_limits.ensures.wcet _ (c.requires.walk.each d.place 0 l)).1 in
    let o = c.next_offset.ensures.value in (
      record {
        within = omega arith;
        offset = omega (arith, c.next_offset.ensures.most, c.loop-cursor.invariant.0.offset);
        work = omega (arith, v, small, c.loop-cursor.invariant.0.work);
      },
      λ t m.
          let low : d.offset < t = omega (arith, c.if-cursor-offset.true, m) in
          let a = asks_at g walk d.place d.offset t l low in
          let b = ap (λ (x : ℕ). asked_by_rest g x (drop (d.place + 1) walk) t) o in
          let same = c.loop-cursor.invariant.1 t m in
          omega (arith, a, b, v, same),
    )
