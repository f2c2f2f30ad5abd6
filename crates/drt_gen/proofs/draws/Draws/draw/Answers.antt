use Rattle.std.proofs.Common.{◌*◌, ◌/◌, ◌%◌, ◌^◌, sym, ap, ◌∙◌}
use Rattle.std.proofs.Math.Nat.{mod-add-mod}
use Rattle.drt_gen.specs.Draws.{state_after}
use Rattle.drt_gen.proofs.Shifts.{after_one}
use Rattle.drt_gen.proofs.draws.Draws.draw.Goals as goal

pub returns-clause-value : goal.returns-clause-value
returns-clause-value c =
    let x = c.self.inside.state in
    rw (c.from.ensures, mod-add-mod (x * 6364136223846793005) (2 ^ 64) 1442695040888963407) (ap (λ s. s / 2 ^ 33 % c.args.many) (sym (after_one x) ∙ ap (λ y. state_after y 1) c.self.view_is))

pub returns-clause-state : goal.returns-clause-state
returns-clause-state c =
    let x = c.self.inside.state in
    mod-add-mod (x * 6364136223846793005) (2 ^ 64) 1442695040888963407 ∙ (sym (after_one x) ∙ ap (λ y. state_after y 1) c.self.view_is)
