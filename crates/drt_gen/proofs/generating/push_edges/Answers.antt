use Rattle.std.proofs.Common.{◌+◌, ◌*◌, ◌++◌, refl, ap, ◌∙◌, append_assoc}
use Rattle.drt_gen.specs.Draws.{draw, state_after}
use Rattle.drt_gen.proofs.Made.{one_made, two_made}
use Rattle.drt_gen.proofs.Shifts.{draws, states}
use Rattle.drt_gen.proofs.generating.push_edges.Goals as goal

pub returns-in_ok-push-2-clause-edges : goal.returns-in_ok-push-2-clause-edges
returns-in_ok-push-2-clause-edges c =
    let x = c.args.draws.now in
    let p = c.args.period in
    let at_one = c.draw_sep-sep.ensures.state in
    let second = c.draw-to.ensures.value ∙ (ap (λ s. draw s 0 12) at_one ∙ draws x 1 0 1 12 refl) in
    let at_two = c.draw-to.ensures.state ∙ (ap (λ s. state_after s 1) at_one ∙ states x 1 1 2 refl) in
    let third = c.draw_sep-sep-2.ensures.value ∙ (ap (λ s. p * (1 + draw s 0 2)) at_two ∙ ap (λ a. p * (1 + a)) (draws x 2 0 2 2 refl)) in
    let made = two_made p x c.args.from c.draw_sep-sep.result c.draw-to.result c.draw_sep-sep.ensures.value second c.draw_sep-sep-2.result third c.if-to-next.true in
    rw (c.in_ok-push-2.ensures.items, c.in_ok-push.ensures.items) (append_assoc c.args.edges.now.items _ _ ∙ ap (λ es. c.args.edges.now.items ++ es) made)

pub returns-in_ok-push-2-clause-state : goal.returns-in_ok-push-2-clause-state
returns-in_ok-push-2-clause-state c =
    let x = c.args.draws.now in
    let at_two = c.draw-to.ensures.state ∙ (ap (λ s. state_after s 1) c.draw_sep-sep.ensures.state ∙ states x 1 1 2 refl) in
    c.draw_sep-sep-2.ensures.state ∙ (ap (λ s. state_after s 1) at_two ∙ states x 2 1 3 refl)

pub returns-else-to-next-clause-edges : goal.returns-else-to-next-clause-edges
returns-else-to-next-clause-edges c =
    let x = c.args.draws.now in
    let p = c.args.period in
    let at_one = c.draw_sep-sep.ensures.state in
    let second = c.draw-to.ensures.value ∙ (ap (λ s. draw s 0 12) at_one ∙ draws x 1 0 1 12 refl) in
    let made = one_made p x c.args.from c.draw_sep-sep.result c.draw-to.result c.draw_sep-sep.ensures.value second c.if-to-next.false in
    c.in_ok-push.ensures.items ∙ ap (λ es. c.args.edges.now.items ++ es) made

pub returns-else-to-next-clause-state : goal.returns-else-to-next-clause-state
returns-else-to-next-clause-state c =
    let x = c.args.draws.now in
    let at_two = c.draw-to.ensures.state ∙ (ap (λ s. state_after s 1) c.draw_sep-sep.ensures.state ∙ states x 1 1 2 refl) in
    c.draw_sep-sep-2.ensures.state ∙ (ap (λ s. state_after s 1) at_two ∙ states x 2 1 3 refl)
