use Rattle.std.proofs.Common.{◌≡◌, ℕ, List, replicate, ap, subst, ◌∙◌, IfOk}
use Rattle.drt_steps.specs.Jumps.{values}
use Rattle.drt_steps.proofs.Jumps.{flat_values}
use Rattle.drt_steps.proofs.steps.Steps.flat.Goals as goal

pub returns : goal.returns
returns c =
    let e : values c.args.bound c.args.value c.new.result.items ≡ replicate c.args.bound c.args.value = ap (λ js. values c.args.bound c.args.value js) c.new.ensures.items
    ∙ flat_values c.args.value 1 c.args.bound in
    subst (λ (xs : List ℕ). IfOk c.from_jumps.result (λ s. s ≡ xs)) e c.from_jumps.ensures
