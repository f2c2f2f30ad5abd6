use Rattle.std.proofs.Common.{◌≡◌, ◌+◌, ◌-◌, refl, arith, sym, subst}
use Rattle.std.proofs.lemmas.Bool.{false≢true}
use Rattle.drt_model.specs.Legal.{IsLegal}
use Rattle.drt_model.proofs.LegalLemmas.{allowed_if_legal, step_if_legal, legal_if_allowed}
use Rattle.drt_model.proofs.releases.legal.Goals as goal

pub returns-then-not-is_allowed : goal.returns-then-not-is_allowed
returns-then-not-is_allowed c = (
  λ e. absurd (false≢true e),
  λ l.
      let rs = c.args.releases.now in
      let l' = subst (λ ts. IsLegal ts rs) (sym c.tasks-tasks.ensures.tasks) l in
      rw c.if-not-is_allowed.true at (c.is_allowed.ensures.1 (allowed_if_legal c.tasks-tasks.result.now rs l' c.loop-i.i _ c.loop-i-test.true)),
)

pub returns-then-not-is_allowed_step : goal.returns-then-not-is_allowed_step
returns-then-not-is_allowed_step c = (
  λ e. absurd (false≢true e),
  λ l.
      let rs = c.args.releases.now in
      let l' = subst (λ ts. IsLegal ts rs) (sym c.tasks-tasks.ensures.tasks) l in
      let next : (c.loop-i.i - 1) + 1 ≡ c.loop-i.i = omega arith in
      let step = step_if_legal c.tasks-tasks.result.now rs l' (c.loop-i.i - 1) (record { task = 0; vertex = 0; time = 0; need = 0 }) (omega arith) in
      rw c.if-not-is_allowed_step.true at (c.is_allowed_step.ensures.1 (rw next at step)),
)

pub returns : goal.returns
returns c =
    let rs = c.args.releases.now in
    let tasks = c.tasks-tasks.result.now in
    let l : IsLegal tasks rs = legal_if_allowed tasks rs
    (λ k d h. c.loop-i.invariant.each k d (omega arith))
    (λ k d h. c.loop-i.invariant.steps k d (omega arith)) in
    (λ _. subst (λ ts. IsLegal ts rs) c.tasks-tasks.ensures.tasks l, λ _. refl)
