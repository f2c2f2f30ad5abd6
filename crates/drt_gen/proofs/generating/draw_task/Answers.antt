use Rattle.std.proofs.Common.{slice_index, refl, ap, ◌∙◌}
use Rattle.drt_gen.specs.Draws.{state_after}
use Rattle.drt_gen.specs.Generated.{periods}
use Rattle.drt_gen.proofs.Made.{task_made}
use Rattle.drt_gen.proofs.Shifts.{states}
use Rattle.drt_gen.proofs.generating.draw_task.Goals as goal

pub returns-clause-task : goal.returns-clause-task
returns-clause-task c =
    let x = c.args.draws.now in
    let at_edges = c.in_ok-vertices.ensures.state ∙ (ap (λ s. state_after s 24) c.draw.ensures.state ∙ states x 1 24 25 refl) in
    task_made x c.args.number _ c.draw.new.self c.draw_vertices.new.draws c.in_ok-numbered.field-0 c.in_ok-vertices.vertices c.in_ok-edges.edges
    c.in_ok-numbered.ensures (ap (slice_index periods) c.draw.ensures.value) c.draw.ensures.state c.in_ok-vertices.ensures.vertices at_edges c.in_ok-edges.ensures.edges

pub returns-clause-state : goal.returns-clause-state
returns-clause-state c =
    let x = c.args.draws.now in
    let at_edges = c.in_ok-vertices.ensures.state ∙ (ap (λ s. state_after s 24) c.draw.ensures.state ∙ states x 1 24 25 refl) in
    c.in_ok-edges.ensures.state ∙ (ap (λ s. state_after s 36) at_edges ∙ states x 25 36 61 refl)
