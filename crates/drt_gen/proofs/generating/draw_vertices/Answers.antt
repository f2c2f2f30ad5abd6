use Rattle.std.proofs.Common.{◌+◌, ◌*◌, sym, ap, ◌∙◌, arith}
use Rattle.drt_gen.specs.Draws.{state_after}
use Rattle.drt_gen.proofs.Made.{vertices_more}
use Rattle.drt_gen.proofs.Shifts.{after_none, states}
use Rattle.drt_gen.proofs.generating.draw_vertices.Goals as goal

pub vertices-init : goal.vertices-init
vertices-init c = record { made = c.new-vertices.ensures.items; state = sym (after_none c.args.draws.now) }

pub vertices-preserved : goal.vertices-preserved
vertices-preserved c =
    let x = c.args.draws.now in
    let j = c.vertices.j in
    let was = c.vertices.invariant in
    record {
      made = c.in_ok-push.ensures.items ∙ vertices_more c.args.period x j c.vertices.draws c.vertices.vertices.items c.in_ok-draw_vertex.field-0 was.made was.state c.in_ok-draw_vertex.ensures.vertex;
      state = c.in_ok-draw_vertex.ensures.state ∙ (ap (λ s. state_after s 2) was.state ∙ states x (2 * j) 2 (2 * (j + 1)) (omega arith));
    }
