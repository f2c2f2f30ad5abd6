use Rattle.std.proofs.Common.{ap, subst}
use Rattle.drt_shared.specs.TableBoard.{IsLogged}
use Rattle.drt_shared.proofs.Boards.{step_spares, step_logged}
use Rattle.drt_shared.proofs.board.TableBoard.apply.Goals as goal

pub invariant_of-self : goal.invariant_of-self
invariant_of-self g c = (c.keep_run.ensures, step_spares g.L.Label.algebra _ _ _ _ _ c.self.invariant.1 c.apply-reply.ensures)

pub returns : goal.returns
returns g c =
    subst (λ v. IsLogged v c.apply-reply.new.self c.args.step c.apply-reply.result) c.self.view_is
    (step_logged g.L.Label.algebra _ _ _ _ _ c.self.invariant.1 c.apply-reply.ensures
    (g.met.L.Label g.world.𝓛 g.world.𝓜 g.world.𝓡 ((λ s x. x), (λ x. x), (λ x. x), λ x. x)).laws c.keep_run.ensures (ap (λ s. s.budget) c.apply-reply.ensures.setting))
