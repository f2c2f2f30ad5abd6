use Rattle.std.proofs.Common.{◌+◌, ◌*◌, refl, sym, ap, ◌∙◌, arith}
use Rattle.drt_gen.specs.Draws.{state_after}
use Rattle.drt_gen.specs.Generated.{drawn_edges}
use Rattle.drt_gen.proofs.Made.{edges_more}
use Rattle.drt_gen.proofs.Shifts.{after_none, states}
use Rattle.drt_gen.proofs.generating.draw_edges.Goals as goal

pub edges-init : goal.edges-init
edges-init c = record { made = c.new-edges.ensures.items; state = sym (after_none c.args.draws.now) }

pub edges-preserved : goal.edges-preserved
edges-preserved c =
    let x = c.args.draws.now in
    let p = c.args.period in
    let j = c.edges.j in
    let was = c.edges.invariant in
    let more = drawn_edges p c.edges.draws 0 j in
    record {
      made = edges_more p x j c.edges.draws c.edges.edges.items c.push_edges.new.edges.items more was.made was.state refl c.in_ok-push_edges.ensures.edges;
      state = c.in_ok-push_edges.ensures.state ∙ (ap (λ s. state_after s 3) was.state ∙ states x (3 * j) 3 (3 * (j + 1)) (omega arith));
    }
