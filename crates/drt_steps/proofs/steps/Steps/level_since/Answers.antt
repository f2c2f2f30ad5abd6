use Rattle.std.proofs.Common.{◌≡◌, ℕ, ◌+◌, List, length, arith, ap, ◌∙◌, sym, subst}
use Rattle.drt_steps.specs.declared.jump.Jump.{Jump}
use Rattle.drt_steps.specs.Jumps.{risen}
use Rattle.drt_steps.specs.Values.{value_at}
use Rattle.drt_steps.proofs.Jumps.{value_of_jumps}
use Rattle.drt_steps.proofs.Kept.{long}
use Rattle.drt_steps.proofs.steps.Steps.level_since.Goals as goal

pub returns-clause-level : goal.returns-clause-level
returns-clause-level c s late le =
    let n : ℕ = c.self.inside.bound in
    let p : ℕ = c.self.inside.base in
    let js : List Jump = c.self.inside.rises.value.jumps.items in
    let is : n ≡ length c.args.self.now = long n p js c.args.self.now c.self.view_is in
    let a : value_at c.args.self.now s ≡ p + risen js s = ap (λ xs. value_at xs s) (sym c.self.view_is) ∙ value_of_jumps n p s js (omega arith) (omega arith) in
    let b : value_at c.args.self.now c.args.t ≡ p + risen js c.args.t = ap (λ xs. value_at xs c.args.t) (sym c.self.view_is) ∙ value_of_jumps n p c.args.t js c.requires.from (omega arith) in
    let h : risen js s ≡ risen js c.args.t = subst (λ (ks : List Jump). risen ks s ≡ risen ks c.args.t) c.jumps_of.ensures (c.level_since.ensures.level s late le) in
    omega arith
