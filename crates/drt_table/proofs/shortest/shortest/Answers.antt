use Rattle.std.proofs.Common.{◌≡◌, sym, subst, Option, ℕ, ◌+◌, drop, arith}
use Rattle.drt_table.specs.Machine.{shortest}
use Rattle.drt_table.specs.Earliest.{smaller}
use Rattle.drt_table.proofs.LeastSeparation.{row_more, row_end}
use Rattle.drt_table.proofs.shortest.shortest.Goals as goal

pub loop-v-preserved : goal.loop-v-preserved
loop-v-preserved c =
    subst (λ (o : Option ℕ). smaller o (shortest (drop (c.loop-v.v + 1) c.args.graph.now.out)) ≡ shortest c.args.graph.now.out) (sym c.smaller-least.ensures)
    (row_more c.args.graph.now c.vertex_count-count.ensures.sound c.loop-v.v c.loop-v.least c.shortest_out.result
    (omega (arith, c.loop-v-test.true, c.vertex_count-count.ensures.count)) c.shortest_out.ensures c.loop-v.invariant)

pub returns : goal.returns
returns c = row_end c.args.graph.now c.vertex_count-count.ensures.sound c.loop-v.v c.loop-v.least (omega (arith, c.loop-v-test.false, c.vertex_count-count.ensures.count)) c.loop-v.invariant
