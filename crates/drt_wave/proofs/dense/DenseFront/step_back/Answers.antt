use Rattle.std.proofs.Common.{◌≡◌, ◌∙◌, ap, arith}
use Rattle.drt_model.specs.Digraph.{vertex_count}
use Rattle.drt_wave.proofs.Tails.{IsAtCell, has_step, step_cell}
use Rattle.drt_wave.proofs.dense.DenseFront.step_back.Goals as goal

pub unreachable-requires : goal.unreachable-requires
unreachable-requires c =
    let d = c.args.self.now in let plan = c.keeps_best.ensures.planned in let best = c.keeps_best.ensures.best in
    let at : IsAtCell d c.args.vertex c.args.offset = record { vertex = c.requires.vertex; offset = c.requires.offset; some = c.requires.some } in
    let s = has_step d plan best c.args.vertex c.args.offset at c.requires.later in
    let from = step_cell d plan best s.0 s.1 c.args.vertex c.args.offset c.requires.offset s.2 in
    let count : c.vertex_count-count.result ≡ vertex_count d.plan.graph = c.vertex_count-count.ensures.count ∙ ap vertex_count c.graph.ensures in
    let lt = from.vertex in
    c.vertices.invariant s.0 s.1 (omega (arith, lt, count, c.vertices-test.false)) s.2
