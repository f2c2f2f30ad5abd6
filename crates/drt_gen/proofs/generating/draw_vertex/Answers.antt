use Rattle.std.proofs.Common.{◌/◌, refl, ap, ◌∙◌}
use Rattle.drt_gen.specs.Draws.{draw}
use Rattle.drt_gen.proofs.Made.{vertex_made}
use Rattle.drt_gen.proofs.Shifts.{draws, states}
use Rattle.drt_gen.proofs.generating.draw_vertex.Goals as goal

pub returns-clause-vertex : goal.returns-clause-vertex
returns-clause-vertex c =
    let x = c.args.draws.now in
    let p = c.args.period in
    let second = c.draw.ensures.value ∙ (ap (λ s. draw s 0 (p / 2)) c.draw-wcet.ensures.state ∙ draws x 1 0 1 (p / 2) refl) in
    vertex_made p x c.args.number c.draw-wcet.result c.draw.result c.in_ok-numbered.field-0 c.in_ok-numbered.ensures c.draw-wcet.ensures.value second

pub returns-clause-state : goal.returns-clause-state
returns-clause-state c = rw (c.draw.ensures.state, c.draw-wcet.ensures.state) (states c.args.draws.now 1 1 2 refl)
